-- `pack_back` meets its contract: after i turns the first i words stand. Assumes nothing.
use Rattle.std.proofs.Common.{◌≡◌, length}
use Rattle.polynomials.specs.Indices.{filled}
use Rattle.packed.specs.Gathering.{packed_back}
use Rattle.packed.proofs.blocks.pack_back.Given as goal

abbrev pub invariant-loop-i : goal.invariant-loop-i
invariant-loop-i l = (l.out ≡ filled l.i (packed_back l.s.setting l.xs l.count) l.initial.out) × (length l.out ≡ length l.initial.out)
