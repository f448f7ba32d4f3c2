-- Tables that the prover computes. Definitions only.
--     Row                   a row: what the definitions give, beside what the documents print, both in numbers
--     Agree rows            every row's two sides are the same
--     answering a prints    the row of a call that answers a number: 0, 0 and the value, or number and place of the refusal
--     checking v prints     the row of a list of checks: number and place of what is refused, 0 and 0 where nothing is
use Rattle.std.specs.Prelude.{ℕ, ◌≡◌, List, [], ◌∷◌, map}
use Rattle.settings.specs.Answers.{Answer, Verdict, numbers}

pub record Row : Type 0 where
  pub gives : List ℕ
  pub prints : List ℕ

abbrev pub Agree : List Row → Type 0
Agree rows = map (λ (r : Row). r.gives) rows ≡ map (λ (r : Row). r.prints) rows

abbrev pub answering : Answer ℕ → List ℕ → Row
answering a prints = record { gives = numbers (λ v. v ∷ []) a; prints = prints }

abbrev pub checking : Verdict → List ℕ → Row
checking v prints = record { gives = numbers (λ u. []) v; prints = prints }
