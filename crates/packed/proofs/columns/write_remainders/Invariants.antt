-- `write_remainders` meets its contract: after j turns the first j remainders stand. Assumes nothing.
use Rattle.std.proofs.Common.{◌≡◌, length}
use Rattle.polynomials.specs.Indices.{filled}
use Rattle.packed.specs.Gathering.{sum_residue}
use Rattle.packed.proofs.columns.write_remainders.Given as goal

abbrev pub invariant-loop-j : goal.invariant-loop-j
invariant-loop-j l = (l.out ≡ filled l.j (sum_residue l.p l.sums) l.initial.out) × (length l.out ≡ length l.initial.out)
