-- 18 never holds in an accepted setting. Assumes nothing.
--     largest s            k coefficients p - 1; largest-operand: they, and fewer, are an operand
--     largest-some         their word is not zero
--     largest-fits         n products of two such words fit a word
--     never-overflows      no batch of a product of two lists below p reaches 2^64
use Rattle.std.specs.Prelude.{ℕ, zero, suc, ◌+◌, ◌-◌, ◌*◌, ◌^◌, ◌≤◌, ◌<◌, min, ◌≡◌, false, List, length, replicate}
use Rattle.std.proofs.Common.{zero-le, ◌∙◌, mul-le-mul_left, arith}
use Rattle.std.proofs.lemmas.List.{length-replicate}
use Rattle.std.proofs.lemmas.Bool.{lt-leb}
use Rattle.polynomials.specs.IndexLaws.{length-upto, upto-at, some-none}
use Rattle.polynomials.specs.Lists.{coefficient, scaled, product_length, product, Below, Operand}
use Rattle.polynomials.specs.ListLaws.{coefficient-scaled}
use Rattle.polynomials.specs.BoundLaws.{product-most}
use Rattle.polynomials.specs.Places.{packed}
use Rattle.polynomials.specs.PlaceLaws.{packed-scaled, packed-product}
use Rattle.polynomials.specs.Blocks.{blocks, block, block_at, pairs_upto, dot}
use Rattle.polynomials.specs.BlockLaws.{block-operand, length_pairs, pairs-operands, words-of-pairs}
use Rattle.settings.specs.Limits.{word_bits}
use Rattle.settings.specs.Settings.{base}
use Rattle.settings.specs.Coefficients.{too_large}
use Rattle.packed.specs.Taken.{taken-below}
use Rattle.settings.specs.Bounds.{Bounds, pairs-fit}
use Rattle.packed.specs.Overflow.{run_sums, block_cause, overflow_cause}
use Rattle.settings.specs.declared.setting.Setting.{Setting}

abbrev pub largest : Setting → List ℕ
largest s = replicate s.k (s.p - 1)

all_same : (m v j : ℕ) → coefficient (replicate m v) j ≤ v
all_same zero v j = zero-le
all_same (suc m) v zero = omega arith
all_same (suc m) v (suc j) = all_same m v j

pub largest-operand : (p k m : ℕ) → 0 < p → m ≤ k → Operand p k (replicate m (p - 1))
largest-operand p k m hp hm = record { size = rw length-replicate hm; below = λ j. omega (arith, all_same m (p - 1) j) }

pub largest-some : (s : Setting) → Bounds s → 0 < packed (base s) (largest s)
largest-some s b = go s.k b.range.choice.k_low
  where
    go : (k : ℕ) → 1 ≤ k → 0 < packed (base s) (replicate k (s.p - 1))
    go zero h = absurd (omega arith)
    go (suc k) h = omega (arith, b.range.choice.p_low)

pub largest-fits : (s : Setting) → Bounds s → s.n * (packed (base s) (largest s) * packed (base s) (largest s)) < 2 ^ 64
largest-fits s b =
    let xs : List ℕ = largest s in
    let o : Operand s.p s.k xs = largest-operand s.p s.k s.k (omega (arith, b.range.choice.p_low)) (omega arith) in
    let word : packed (base s) (scaled s.n (product xs xs)) ≡ s.n * (packed (base s) xs * packed (base s) xs) = packed-scaled (base s) s.n (product xs xs) ∙ rw (packed-product (base s) xs xs) in
    rw (← word) (b.batch_fits (scaled s.n (product xs xs)) (λ j. rw (coefficient-scaled s.n (product xs xs) j) (mul-le-mul_left s.n (product-most s.p s.k xs xs o o j))))

module _ (s : Setting) (bounded : Bounds s) (a b : List ℕ) (ha : Below s.p a) (hb : Below s.p b) where
  -- a run of at most n products, from pair i of block z on
  run_fits : (z i m : ℕ) → m ≤ s.n → dot (block_at (base s) s.k a) (λ i. block_at (base s) s.k b (z - i)) i i m < 2 ^ 64
  run_fits z i m few =
      let f : ℕ → List ℕ = λ r. block s.k a (i + r) in
      let g : ℕ → List ℕ = λ r. block s.k b (z - (i + r)) in
      rw (← words-of-pairs (base s) m f g)
      (pairs-fit s bounded (pairs_upto m f g) (pairs-operands s.p s.k m f g (λ r. block-operand s.p s.k a (i + r) ha) (λ r. block-operand s.p s.k b (z - (i + r)) hb)) (rw length_pairs few))

  abbrev sum_from : ℕ → ℕ → ℕ
  sum_from z i = dot (block_at (base s) s.k a) (λ i. block_at (base s) s.k b (z - i)) i i (min s.n (suc z - i))

  abbrev sums : ℕ → List ℕ
  sums z = run_sums s.n (suc z) (block_at (base s) s.k a) (λ i. block_at (base s) s.k b (z - i))

  block-fits : (z : ℕ) → block_cause s a b z ≡ false
  block-fits z =
      rw (taken-below s.p a ha, taken-below s.p b hb)
      ((some-none (too_large (2 ^ word_bits) (sums z)) (length (sums z))).1 (λ i l. lt-leb (2 ^ word_bits) (coefficient (sums z) i) (at i (rw length-upto at l))))
    where
      at : (i : ℕ) → i < suc z → coefficient (sums z) i < 2 ^ 64
      at i l = rw (upto-at (suc z) (sum_from z) i l) (run_fits z i (min s.n (suc z - i)) (omega arith))

  pub never-overflows : overflow_cause s a b ≡ false
  unfolding overflow_cause
  never-overflows =
      let m : ℕ = product_length (blocks s.k (length a)) (blocks s.k (length b)) in
      (some-none (block_cause s a b) m).1 (λ z l. block-fits z)
