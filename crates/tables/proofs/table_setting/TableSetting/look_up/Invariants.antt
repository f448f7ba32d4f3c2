-- `look_up` meets its contract: at place i, rest and quotient are word and quotient from there on, and w is the word of the places below.
-- Assumes nothing.
use Rattle.std.proofs.Common.{ℕ, ◌≡◌, ◌/◌, ◌%◌, ◌^◌, List}
use Rattle.polynomials.specs.Indices.{upto}
use Rattle.polynomials.specs.Places.{packed, shifted, looked_up}
use Rattle.tables.proofs.table_setting.TableSetting.look_up.Given as goal

-- what holds at place i
pub record Turn (p t : ℕ) (held : List ℕ) (word rest quotient u weight w i : ℕ) : Type 0 where
  pub rest-is : rest ≡ word / (2 ^ t) ^ i
  pub quotient_is : quotient ≡ word / p / (2 ^ t) ^ i
  pub u-is : u ≡ shifted p (2 ^ t) word i
  pub weight_is : weight ≡ (2 ^ t) ^ i % 2 ^ 64
  pub w-is : w ≡ packed (2 ^ t) (upto i (looked_up p (2 ^ t) held word))

abbrev pub invariant-loop : goal.invariant-loop
invariant-loop l = Turn l.p l.t l.held l.word l.rest l.quotient l.u l.weight l.w l.counter
