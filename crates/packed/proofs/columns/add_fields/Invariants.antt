-- `add_fields` meets its contract: after i turns the first i fields are added, and the rest of the word is what stands from the next one on. No
-- sum is above all of them together. Assumes nothing.
use Rattle.std.proofs.Common.{ℕ, ◌≡◌, ◌+◌, ◌*◌, ◌/◌, ◌^◌, List, length}
use Rattle.polynomials.specs.Places.{packed, fields}
use Rattle.packed.proofs.columns.add_fields.Given as goal

pub record Turn (t word at : ℕ) (old sums : List ℕ) (rest r : ℕ) : Type 0 where
  pub size : length sums ≡ length old
  pub above : rest ≡ word / (2 ^ t) ^ r
  pub added : (b : ℕ) → packed b sums ≡ packed b old + packed b (fields (2 ^ t) r word) * b ^ at

abbrev pub invariant-loop-i : goal.invariant-loop-i
invariant-loop-i l = Turn l.t l.word l.at l.initial.sums l.sums l.rest l.i
