-- `pack_back` meets its contract: after i turns the first i words stand. Assumes nothing.
use Rattle.std.proofs.Common.{arith, length-set}
use Rattle.polynomials.specs.IndexLaws.{filled_more}
use Rattle.packed.specs.Gathering.{packed_back}
use Rattle.packed.proofs.blocks.pack_back.Goals as goal

pub loop-i-preserved : goal.loop-i-preserved
loop-i-preserved c =
    let a = c.args in
    let l = c.loop-i in
    (filled_more (packed_back a.s.setting a.xs.now a.count) a.out.now l.out l.i c.pack_block.result (omega (arith, c.requires.2)) l.invariant.0 c.pack_block.ensures, simp length-set l.invariant.1)
