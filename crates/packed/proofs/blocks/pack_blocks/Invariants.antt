-- `pack_blocks` meets its contract: after i turns the first i words stand. Assumes nothing.
use Rattle.std.proofs.Common.{◌≡◌, length}
use Rattle.polynomials.specs.Indices.{filled}
use Rattle.polynomials.specs.Blocks.{block_at}
use Rattle.settings.specs.Settings.{base}
use Rattle.packed.specs.Taken.{taken}
use Rattle.packed.proofs.blocks.pack_blocks.Given as goal

abbrev pub invariant-loop-i : goal.invariant-loop-i
invariant-loop-i l =
    let s = l.s.setting in
    (l.out ≡ filled l.i (block_at (base s) s.k (taken s.p l.xs)) l.initial.out) × (length l.out ≡ length l.initial.out)
