-- `split_shifted` meets its contract: rest and quotient are word and quotient from place i on. Assumes nothing.
use Rattle.std.proofs.Common.{◌≡◌, ◌/◌, ◌^◌, length}
use Rattle.polynomials.specs.Indices.{filled}
use Rattle.polynomials.specs.Places.{shifted}
use Rattle.words.proofs.fields.split_shifted.Given as goal

abbrev pub invariant-loop-i : goal.invariant-loop-i
invariant-loop-i l =
    (l.out ≡ filled l.i (shifted l.p (2 ^ l.t) l.word) l.initial.out) × (length l.out ≡ length l.initial.out) × (l.rest ≡ l.word / (2 ^ l.t) ^ l.i) × (l.quotient ≡ l.word / l.p / (2 ^ l.t) ^ l.i)
