-- How far two lists are apart, and a list with places exchanged. Definitions only.
--     unlike xs ys i        1 where place i differs, and 0 where it does not
--     differences xs ys     in how many places they differ, as far as the first goes
--     exchanged xs i k      what stands at i and at k, each in the other's place
use Rattle.std.specs.Prelude.{ℕ, List, eqb, length, set}
use Rattle.polynomials.specs.Indices.{pick, sum_to}
use Rattle.polynomials.specs.Lists.{coefficient}

abbrev pub unlike : List ℕ → List ℕ → ℕ → ℕ
unlike xs ys i = pick (eqb (coefficient xs i) (coefficient ys i)) 0 1

abbrev pub differences : List ℕ → List ℕ → ℕ
differences xs ys = sum_to (length xs) (unlike xs ys)

abbrev pub exchanged : List ℕ → ℕ → ℕ → List ℕ
exchanged xs i k = set (set xs i (coefficient xs k)) k (coefficient xs i)
