-- `pack_blocks` meets its contract: after i turns the first i words stand. Assumes nothing.
use Rattle.std.proofs.Common.{arith, length-set}
use Rattle.polynomials.specs.IndexLaws.{filled_more}
use Rattle.polynomials.specs.Blocks.{block_at}
use Rattle.settings.specs.Settings.{base}
use Rattle.packed.specs.Taken.{taken}
use Rattle.packed.proofs.blocks.pack_blocks.Goals as goal

pub loop-i-preserved : goal.loop-i-preserved
loop-i-preserved c =
    let a = c.args in
    let s = a.s.setting in
    let l = c.loop-i in
    (filled_more (block_at (base s) s.k (taken s.p a.xs.now)) a.out.now l.out l.i c.pack_block.result (omega (arith, c.requires.2)) l.invariant.0 c.pack_block.ensures, simp length-set l.invariant.1)
