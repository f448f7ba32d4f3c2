-- `pack_double` meets its contract: w is the word of the coefficients after those still to come, which is no more than the whole. Assumes nothing.
use Rattle.std.proofs.Common.{◌≡◌, ◌++◌, length, drop}
use Rattle.polynomials.specs.Places.{packed}
use Rattle.doubles.specs.Whole.{whole_part, Held}
use Rattle.packed.specs.Taken.{taken}
use Rattle.lane.proofs.sums.pack_double.Given as goal

abbrev pub invariant-loop-x : goal.invariant-loop-x
invariant-loop-x l =
    let rest = l.x-iterator.iter.rest.now in
    (rest ++ drop (length rest) l.xs ≡ l.xs) × Held l.w (packed (whole_part l.q) (drop (length rest) (taken l.p l.xs)))
