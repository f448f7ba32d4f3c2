-- `pack_taken` meets its contract: w is the word of the coefficients after those still to come, which is no more than the whole. Assumes nothing.
use Rattle.std.proofs.Common.{◌≡◌, ◌^◌, ◌++◌, length, drop}
use Rattle.polynomials.specs.Places.{packed}
use Rattle.packed.specs.Taken.{taken}
use Rattle.packed.proofs.arithmetic.pack_taken.Given as goal

abbrev pub invariant-loop-x : goal.invariant-loop-x
invariant-loop-x l =
    let rest = l.x-iterator.iter.rest.now in
    (rest ++ drop (length rest) l.xs ≡ l.xs) × (l.w ≡ packed (2 ^ l.t) (drop (length rest) (taken l.p l.xs)))
