-- 18 Overflow: a batch sum would not fit its word. The sums are whole numbers, and a word holds those below 2^64.
--     run_sums n m x y       of the m products x 0 y 0, x 1 y 1, ..: the sum of n that follow one another, from each of them on; near the end,
--                           of what is left. A batch is such a run, wherever the products are cut into batches
--     some_overflows sums    one of the sums is 2^64 or more
--     block_cause s a b z    a batch of block z of the product: block i of the first list meets block z - i of the second
--     overflow_cause s a b   in one of the blocks of the product
--     feed_overflow s r w xs ys
--                           of the pairs of two flat lists: the open batch, which has r pairs in the word w and takes what it still can, or a batch
--                           after it
-- It never holds in an accepted setting: OverflowLaws.
use Rattle.std.specs.Prelude.{ℕ, suc, ◌+◌, ◌-◌, ◌/◌, ◌^◌, min, Bool, List, ◌∷◌, length}
use Rattle.polynomials.specs.Indices.{upto, some}
use Rattle.polynomials.specs.Lists.{product_length}
use Rattle.polynomials.specs.Blocks.{blocks, block_at, dot}
use Rattle.settings.specs.Limits.{word_bits}
use Rattle.settings.specs.Settings.{base}
use Rattle.settings.specs.Coefficients.{too_large}
use Rattle.packed.specs.Taken.{taken}
use Rattle.settings.specs.declared.setting.Setting.{Setting}

abbrev pub run_sums : ℕ → ℕ → (ℕ → ℕ) → (ℕ → ℕ) → List ℕ
run_sums n m x y = upto m (λ i. dot x y i i (min n (m - i)))

abbrev pub some_overflows : List ℕ → Bool
some_overflows sums = some (too_large (2 ^ word_bits) sums) (length sums)

abbrev pub block_cause : Setting → List ℕ → List ℕ → ℕ → Bool
block_cause s a b z =
    some_overflows (run_sums s.n (suc z) (block_at (base s) s.k (taken s.p a)) (λ i. block_at (base s) s.k (taken s.p b) (z - i)))

unfoldable pub feed_overflow : Setting → ℕ → ℕ → List ℕ → List ℕ → Bool
feed_overflow s r w xs ys =
    let m : ℕ = length xs / s.k in
    let x : ℕ → ℕ = block_at (base s) s.k (taken s.p xs) in
    let y : ℕ → ℕ = block_at (base s) s.k (taken s.p ys) in
    some_overflows ((w + dot x y 0 0 (min (s.n - r) m)) ∷ run_sums s.n m x y)

unfoldable pub overflow_cause : Setting → List ℕ → List ℕ → Bool
overflow_cause s a b =
    let m : ℕ = product_length (blocks s.k (length a)) (blocks s.k (length b)) in
    some (block_cause s a b) m
