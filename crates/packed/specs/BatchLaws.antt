-- Words that each hold one packed polynomial, and the batches of their products: for the workers of product alone. Assumes nothing.
-- Sums of products are told by what they are worth in every base b: a word's polynomial, taken out of its places in the base q and packed in b. In
-- each base adding polynomials is adding numbers, and their product is one product, so that no law here goes place by place. Two lists that are worth
-- the same in every base are the same; in the base 1 the worth is the sum of all coefficients, which bounds each of them.
--     PackedWord s w, PackedWords s ws    w is the word of an operand; each of the words ws is
--     packed-word                         the word of an operand is one
--     worth s b ws i                      word i, as its polynomial packs in the base b
--     column_worth s b xs ys i j m         the sum of m products of words, from i in xs and from j in ys on, at that worth
--     columns_worth s b xs ys i j m at     four columns, the first from place at on and each of the others k places and one word of ys further
--     columns-none, columns-join, columns-fewer
--                                         of no products; of some and then more; of fewer, which are worth no more
--     columns-one                         in the base 1 places do not count
--     column_fits                         a batch of at most n products is below 2^64
--     batch-worth                         its word, taken apart into 2k-1 fields and put together in the base b, is the sum at that worth
use Rattle.std.specs.Prelude.{ℕ, ◌+◌, ◌-◌, ◌*◌, ◌^◌, ◌≤◌, ◌<◌, ◌≡◌, List, length}
use Rattle.std.proofs.Common.{ap, ◌∙◌, le_trans, lt_of_le_of_lt, zero-mul, mul-one, arith}
use Rattle.polynomials.specs.IndexLaws.{sum_same, sum-join}
use Rattle.polynomials.specs.Lists.{coefficient, Below, Operand, Pair, Pairs, sum_of_products, batch_most}
use Rattle.polynomials.specs.BoundLaws.{batch-most, batch-more, batch-past}
use Rattle.polynomials.specs.Places.{packed, fields, sum_of_words}
use Rattle.polynomials.specs.PlaceLaws.{fields-packed, one_power}
use Rattle.polynomials.specs.Blocks.{pairs_upto, dot, spread}
use Rattle.polynomials.specs.BlockLaws.{length_pairs, pairs-operands, words-of-pairs, spread-words}
use Rattle.settings.specs.Settings.{base, places}
use Rattle.settings.specs.Bounds.{Bounds, pairs-fit}
use Rattle.settings.specs.declared.setting.Setting.{Setting}

pub record PackedWord (s : Setting) (w : ℕ) : Type 0 where
  pub operand : Operand s.p s.k (fields (base s) s.k w)
  pub whole : packed (base s) (fields (base s) s.k w) ≡ w

abbrev pub PackedWords : Setting → List ℕ → Type 0
PackedWords s ws = (i : ℕ) → PackedWord s (coefficient ws i)

abbrev pub worth : Setting → ℕ → List ℕ → ℕ → ℕ
worth s b ws i = spread (base s) s.k b (coefficient ws i)

abbrev pub column_worth : Setting → ℕ → List ℕ → List ℕ → ℕ → ℕ → ℕ → ℕ
column_worth s b xs ys i j m = dot (worth s b xs) (worth s b ys) i j m

unfoldable pub columns_worth : Setting → ℕ → List ℕ → List ℕ → ℕ → ℕ → ℕ → ℕ → ℕ
columns_worth s b xs ys i j m at =
    column_worth s b xs ys i (j + 3) m * b ^ at
    + column_worth s b xs ys i (j + 2) m * b ^ (at + s.k)
    + column_worth s b xs ys i (j + 1) m * b ^ (at + 2 * s.k)
    + column_worth s b xs ys i (j + 0) m * b ^ (at + 3 * s.k)

pub packed-word : (s : Setting) (xs : List ℕ) → Bounds s → length xs ≡ s.k → Below s.p xs → PackedWord s (packed (base s) xs)
packed-word s xs b size below =
    let low : Below (base s) xs = λ j. let h = below j in omega (arith, b.coefficient_fits) in
    let same : fields (base s) s.k (packed (base s) xs) ≡ xs = rw (← size) (fields-packed (base s) xs low) in
    record { operand = rw same (record { size = omega arith; below = below }); whole = rw same }

pub columns-none : (s : Setting) (b : ℕ) (xs ys : List ℕ) (i j at : ℕ) → columns_worth s b xs ys i j 0 at ≡ 0
unfolding columns_worth
columns-none s b xs ys i j at = simp zero-mul

module _ (s : Setting) (b : ℕ) (xs ys : List ℕ) (i m n : ℕ) where
  column-join : (j u : ℕ) → column_worth s b xs ys i (j + u) (m + n) ≡ column_worth s b xs ys i (j + u) m + column_worth s b xs ys (i + m) (j + m + u) n
  column-join j u =
      sum-join (λ r. worth s b xs (i + r) * worth s b ys (j + u + r)) m n
      ∙ ap (λ (v : ℕ). column_worth s b xs ys i (j + u) m + v)
      (sum_same n (λ r. worth s b xs (i + (m + r)) * worth s b ys (j + u + (m + r))) (λ r. worth s b xs (i + m + r) * worth s b ys (j + m + u + r)) (λ r l. term r))
    where
      term : (r : ℕ) → worth s b xs (i + (m + r)) * worth s b ys (j + u + (m + r)) ≡ worth s b xs (i + m + r) * worth s b ys (j + m + u + r)
      term r =
          let x : i + (m + r) ≡ i + m + r = omega arith in
          let y : j + u + (m + r) ≡ j + m + u + r = omega arith in
          rw (x, y)

  pub columns-join : (j at : ℕ) → columns_worth s b xs ys i j (m + n) at ≡ columns_worth s b xs ys i j m at + columns_worth s b xs ys (i + m) (j + m) n at
  unfolding columns_worth
  columns-join j at = rw (column-join j 3, column-join j 2, column-join j 1, column-join j 0) (omega arith)

pub columns-fewer : (s : Setting) (b : ℕ) (xs ys : List ℕ) (i j m n at : ℕ) → m ≤ n → columns_worth s b xs ys i j m at ≤ columns_worth s b xs ys i j n at
columns-fewer s b xs ys i j m n at h =
    let e : m + (n - m) ≡ n = omega arith in
    let join : columns_worth s b xs ys i j n at ≡ columns_worth s b xs ys i j m at + columns_worth s b xs ys (i + m) (j + m) (n - m) at = rw e at (columns-join s b xs ys i m (n - m) j at) in
    omega arith

pub columns-one : (s : Setting) (xs ys : List ℕ) (i j m at : ℕ) → columns_worth s 1 xs ys i j m at
    ≡ column_worth s 1 xs ys i (j + 3) m + column_worth s 1 xs ys i (j + 2) m + column_worth s 1 xs ys i (j + 1) m + column_worth s 1 xs ys i (j + 0) m
unfolding columns_worth
columns-one s xs ys i j m at = simp (one_power, mul-one)

module _ (s : Setting) (b : Bounds s) (xs ys : List ℕ) (hx : PackedWords s xs) (hy : PackedWords s ys) (i j m : ℕ) (few : m ≤ s.n) where
  abbrev left : ℕ → List ℕ
  left r = fields (base s) s.k (coefficient xs (i + r))

  abbrev right : ℕ → List ℕ
  right r = fields (base s) s.k (coefficient ys (j + r))

  abbrev cs : List Pair
  cs = pairs_upto m left right

  operands : Pairs s.p s.k cs
  operands = pairs-operands s.p s.k m left right (λ r. (hx (i + r)).operand) (λ r. (hy (j + r)).operand)

  word : sum_of_words (base s) cs ≡ dot (coefficient xs) (coefficient ys) i j m
  word =
      words-of-pairs (base s) m left right
      ∙ sum_same m (λ r. packed (base s) (left r) * packed (base s) (right r)) (λ r. coefficient xs (i + r) * coefficient ys (j + r)) (λ r l. rw ((hx (i + r)).whole, (hy (j + r)).whole))

  most : (u : ℕ) → coefficient (sum_of_products cs) u ≤ batch_most s.p s.k s.n u
  most u = le_trans (batch-most s.p s.k cs operands u) (batch-more s.p s.k (length cs) s.n (rw length_pairs few) u)

  pub column_fits : dot (coefficient xs) (coefficient ys) i j m < 2 ^ 64
  column_fits = rw (← word) (pairs-fit s b cs operands (rw length_pairs few))

  pub batch-worth : (c : ℕ) → spread (base s) (places s) c (dot (coefficient xs) (coefficient ys) i j m) ≡ dot (worth s c xs) (worth s c ys) i j m
  batch-worth c =
      rw (← word)
      (spread-words (base s) (places s) c cs (λ u. lt_of_le_of_lt (most u) (b.field_fits u)) (λ u h. let u2 = most u in omega (arith, batch-past s.p s.k s.n u h)) ∙ words-of-pairs c m left right)
