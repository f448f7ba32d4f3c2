-- Pairs of polynomials in flat lists, and in batches of n. Definitions only.
--     pairs_of k xs ys     the pairs of two flat lists, k coefficients per polynomial: block i of the one and block i of the other
--     in_batches n cs      how many of the pairs stand in full batches of n
--     full_batches n cs    these
--     open_batch n cs      the rest, fewer than n
use Rattle.std.specs.Prelude.{ℕ, ◌*◌, ◌/◌, List, length, take, drop}
use Rattle.polynomials.specs.Lists.{Pair}
use Rattle.polynomials.specs.Blocks.{block, pairs_upto}

abbrev pub pairs_of : ℕ → List ℕ → List ℕ → List Pair
pairs_of k xs ys = pairs_upto (length xs / k) (block k xs) (block k ys)

abbrev pub in_batches : {A : Type 0} → ℕ → List A → ℕ
in_batches n cs = length cs / n * n

abbrev pub full_batches : {A : Type 0} → ℕ → List A → List A
full_batches n cs = take (in_batches n cs) cs

abbrev pub open_batch : {A : Type 0} → ℕ → List A → List A
open_batch n cs = drop (in_batches n cs) cs
