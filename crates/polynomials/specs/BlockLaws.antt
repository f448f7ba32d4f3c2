-- The product of two lists, gathered from products of blocks, for every k and every cut into batches. Assumes nothing.
--     blocks-enough, blocks-most       the blocks of k hold all m coefficients, and at most k - 1 more
--     rounded-up-few, blocks-some      they are no more than the coefficients, and there is one where there is a coefficient
--     coefficient-block                a block's coefficients
--     block-operand                    a block of a list below p is an operand
--     packed-blocks                    a list is its blocks, packed in the base q^k
--     coefficient-blocks               the list of a list's blocks, also past the last
--     length_pairs, pairs-operands, words-of-pairs
--                                      of pairs_upto: how many, what they are, and the sum of their packed products
--     spread-words                     a sum of packed products, taken apart and put together in another base, is the sum in that base
--     spread-block, spread-zero        a block packed in one base, taken apart and put together in another, is the block packed in that; so is nothing
--     packed-raised                    what is added at place i counts i places up
--     column                           coefficient z + c of a product as a dot of the first factor with the second backwards
--     gathered-most                    a product's first coefficients are no more than the product
--     gathered                         a list that is, in every base, the product of two lists' blocks, is the product of the lists
use Prim.Native.Nat.{ℕ, zero, suc, ◌+◌, ◌-◌, ◌*◌, ◌^◌, ◌≤◌, ◌<◌, min, zero-le}
use Rattle.std.specs.Prelude.{◌≡◌, refl, List, [], ◌∷◌, ltb, length}
use Rattle.std.proofs.Math.Path.{sym}
use Rattle.std.proofs.Common.{ap, ◌∙◌, zero-add, add-zero, zero-mul, mul-zero, mul-one, suc-mul, le-mul_of_pos_right, mul-le-mul_right, le-div_iff_mul-le, div-add-mod', mod-lt, add-one, arith, pow-add}
use Rattle.std.proofs.Math.Nat.{pow-zero, pow-succ', zero-div, zero-mod}
use Rattle.std.proofs.Math.Decide.{dec_lt}
use borrow.Author.Tests.{lt-ltb, le-ltb}
use Rattle.polynomials.specs.Indices.{pick, rounded_up, sum_to, upto}
use Rattle.polynomials.specs.Lists.{coefficient, product_length, product_at, product, Below, Operand, Pair, Pairs, sum_of_products}
use Rattle.polynomials.specs.Places.{packed, field, fields, sum_of_words}
use Rattle.polynomials.specs.Blocks.{blocks, block, block_at, block_list, pairs_upto, dot, spread, raised, down, backwards}
use Rattle.polynomials.specs.IndexLaws.{length-upto, upto-at, upto-past, upto-most, sum-front, sum_same, sum-part}
use Rattle.polynomials.specs.ListLaws.{coefficient-past, coefficient-product, length-product}
use Rattle.polynomials.specs.PlaceLaws.{packed-agree, packed-most, packed-product, packed-sum_of_products, packed-next, packed-same, power-power, field-packed, fields-packed}

-- ---- blocks

pub blocks-enough : (k m : ℕ) → 0 < k → m ≤ blocks k m * k
blocks-enough k m h = omega (arith, div-add-mod' (m + k - 1) k, mod-lt (m + k - 1) h)

pub blocks-most : (k m : ℕ) → blocks k m * k ≤ m + k - 1
blocks-most k m = omega (arith, div-add-mod' (m + k - 1) k)

pub rounded-up-few : (m k : ℕ) → 0 < k → rounded_up m k ≤ m
rounded-up-few m k h = go (dec_lt m (rounded_up m k))
  where
    go : Dec (m < rounded_up m k) → rounded_up m k ≤ m
    go (yes l) = absurd (omega (arith, blocks-most k m, mul-le-mul_right k l, suc-mul m k, le-mul_of_pos_right m h))
    go (no l) = omega arith

pub blocks-some : (k m : ℕ) → 0 < k → 0 < m → 0 < blocks k m
blocks-some k m h l = (le-div_iff_mul-le h).1 (omega arith)

pub coefficient-block : (k : ℕ) (xs : List ℕ) (i j : ℕ) → j < k → coefficient (block k xs i) j ≡ coefficient xs (i * k + j)
coefficient-block k xs i j h = upto-at k (λ j. coefficient xs (i * k + j)) j h

pub block-operand : (p k : ℕ) (xs : List ℕ) (i : ℕ) → Below p xs → Operand p k (block k xs i)
block-operand p k xs i h = record {
  size = rw length-upto (omega arith);
  below = λ j. let b = h (i * k + j) in omega (arith, upto-most k (λ j. coefficient xs (i * k + j)) j);
}

packed_join : (q : ℕ) (f : ℕ → ℕ) (n k : ℕ) → packed q (upto (n + k) f) ≡ packed q (upto n f) + packed q (upto k (λ j. f (n + j))) * q ^ n
packed_join q f n zero = rw add-zero (omega arith)
packed_join q f n (suc k) =
    let e : n + suc k ≡ n + k + 1 = omega arith in
    let last : packed q (upto (suc k) (λ j. f (n + j))) ≡ packed q (upto k (λ j. f (n + j))) + f (n + k) * q ^ k = rw add-one at (packed-next q (λ j. f (n + j)) k) in
    rw (e, last) (packed-next q f (n + k) ∙ rw (packed_join q f n k, pow-add) (omega arith))

blocks-joined : (q k : ℕ) (xs : List ℕ) (m : ℕ) → packed (q ^ k) (block_list q k m xs) ≡ packed q (upto (m * k) (coefficient xs))
blocks-joined q k xs zero = rw zero-mul
blocks-joined q k xs (suc m) =
    let e : suc m * k ≡ m * k + k = suc-mul m k in
    let last : packed (q ^ k) (upto (suc m) (block_at q k xs)) ≡ packed (q ^ k) (upto m (block_at q k xs)) + block_at q k xs m * (q ^ k) ^ m = rw add-one at (packed-next (q ^ k) (block_at q k xs) m) in
    last ∙ rw (e, packed_join q (coefficient xs) (m * k) k, power-power q k m, blocks-joined q k xs m)

pub packed-blocks : (q k : ℕ) (xs : List ℕ) (m : ℕ) → length xs ≤ m * k → packed (q ^ k) (block_list q k m xs) ≡ packed q xs
packed-blocks q k xs m h = blocks-joined q k xs m ∙ packed-agree q (upto (m * k) (coefficient xs)) xs (λ j. at j (dec_lt j (m * k)))
  where
    at : (j : ℕ) → Dec (j < m * k) → coefficient (upto (m * k) (coefficient xs)) j ≡ coefficient xs j
    at j (yes l) = upto-at (m * k) (coefficient xs) j l
    at j (no l) = upto-past (m * k) (coefficient xs) j (omega arith) ∙ sym (coefficient-past xs j (omega arith))

block-past : (q k : ℕ) (xs : List ℕ) (i : ℕ) → length xs ≤ i * k → block_at q k xs i ≡ 0
block-past q k xs i h = packed-agree q (block k xs i) [] (λ j. omega (arith, upto-most k (λ j. coefficient xs (i * k + j)) j, coefficient-past xs (i * k + j) (omega arith)))

-- no block past the last holds anything
pub coefficient-blocks : (q k : ℕ) (xs : List ℕ) (m i : ℕ) → length xs ≤ m * k → coefficient (block_list q k m xs) i ≡ block_at q k xs i
coefficient-blocks q k xs m i h = go (dec_lt i m)
  where
    go : Dec (i < m) → coefficient (block_list q k m xs) i ≡ block_at q k xs i
    go (yes l) = upto-at m (block_at q k xs) i l
    go (no l) = upto-past m (block_at q k xs) i (omega arith) ∙ sym (block-past q k xs i (omega (arith, mul-le-mul_right {m = m} {n = i} k (omega arith))))

-- ---- batches

pub length_pairs : (m : ℕ) (f g : ℕ → List ℕ) → length (pairs_upto m f g) ≡ m
length_pairs zero f g = refl
length_pairs (suc m) f g = ap suc (length_pairs m (λ r. f (suc r)) (λ r. g (suc r)))

pub pairs-operands : (p k m : ℕ) (f g : ℕ → List ℕ) → ((r : ℕ) → Operand p k (f r)) → ((r : ℕ) → Operand p k (g r)) → Pairs p k (pairs_upto m f g)
pairs-operands p k zero f g hf hg = tt
pairs-operands p k (suc m) f g hf hg = (hf 0, hg 0, pairs-operands p k m (λ r. f (suc r)) (λ r. g (suc r)) (λ r. hf (suc r)) (λ r. hg (suc r)))

pub words-of-pairs : (q m : ℕ) (f g : ℕ → List ℕ) → sum_of_words q (pairs_upto m f g) ≡ sum_to m (λ r. packed q (f r) * packed q (g r))
words-of-pairs q zero f g = refl
words-of-pairs q (suc m) f g = rw (words-of-pairs q m (λ r. f (suc r)) (λ r. g (suc r))) (sym (sum-front m (λ r. packed q (f r) * packed q (g r))))

pub spread-words : (q m b : ℕ) (cs : List Pair) → Below q (sum_of_products cs) → ((j : ℕ) → m ≤ j → coefficient (sum_of_products cs) j ≡ 0) → spread q m b (sum_of_words q cs) ≡ sum_of_words b cs
spread-words q m b cs below past =
    rw (← packed-sum_of_products q cs) (packed-agree b (fields q m (packed q (sum_of_products cs))) (sum_of_products cs) (λ j. at j (dec_lt j m)) ∙ packed-sum_of_products b cs)
  where
    at : (j : ℕ) → Dec (j < m) → coefficient (fields q m (packed q (sum_of_products cs))) j ≡ coefficient (sum_of_products cs) j
    at j (yes l) = upto-at m (field q (packed q (sum_of_products cs))) j l ∙ field-packed q (sum_of_products cs) below j
    at j (no l) = upto-past m (field q (packed q (sum_of_products cs))) j (omega arith) ∙ sym (past j (omega arith))

pub spread-block : (q k b : ℕ) (xs : List ℕ) (i : ℕ) → Below q xs → spread q k b (block_at q k xs i) ≡ block_at b k xs i
spread-block q k b xs i h =
    let below : Below q (block k xs i) = λ j. let l = h (i * k + j) in omega (arith, upto-most k (λ j. coefficient xs (i * k + j)) j) in
    let same : fields q (length (block k xs i)) (packed q (block k xs i)) ≡ block k xs i = fields-packed q (block k xs i) below in
    let size : length (block k xs i) ≡ k = length-upto k (λ j. coefficient xs (i * k + j)) in
    rw (rw size at same)

pub spread-zero : (q k b : ℕ) → spread q k b 0 ≡ 0
spread-zero q k b = packed-agree b (fields q k 0) [] (λ j. omega (arith, upto-most k (field q 0) j, field-zero j))
  where
    field-zero : (j : ℕ) → field q 0 j ≡ 0
    field-zero j = rw (zero-div, zero-mod)

pub packed-raised : (q : ℕ) (xs : List ℕ) (i v : ℕ) → i < length xs → packed q (raised xs i v) ≡ packed q xs + v * q ^ i
packed-raised q [] i v h = absurd (omega arith)
packed-raised q (x ∷ xs) zero v h = rw (pow-zero, mul-one) (omega arith)
packed-raised q (x ∷ xs) (suc i) v h = rw (packed-raised q xs i v (omega arith), pow-succ') (omega arith)

-- ---- columns

module _ (w : ℕ) (xs ys : List ℕ) (m n z c : ℕ) (hm : length xs ≡ m) (hn : length ys ≡ n) (hc : c ≤ w) (some : 0 < n) (inside : z + 1 < m + n) where
  -- as coefficient z + c of the product takes them, both ways
  backwards-down : (r : ℕ) → backwards w ys (n - (z + 1) + (w - c) + r) ≡ down ys (z + c) (z + 1 - n + r)
  backwards-down r = rw hn (go (dec_lt (z + 1 - n + r) (suc (z + c))))
    where
      go : Dec (z + 1 - n + r < suc (z + c)) → pick (ltb (n - (z + 1) + (w - c) + r) (n + w)) (coefficient ys (n + w - 1 - (n - (z + 1) + (w - c) + r))) 0 ≡ down ys (z + c) (z + 1 - n + r)
      go (yes l) =
          let e : n + w - 1 - (n - (z + 1) + (w - c) + r) ≡ z + c - (z + 1 - n + r) = omega arith in
          rw (lt-ltb (z + 1 - n + r) (suc (z + c)) l, lt-ltb (n - (z + 1) + (w - c) + r) (n + w) (omega arith), e)
      go (no l) = rw (le-ltb (z + 1 - n + r) (suc (z + c)) (omega arith), le-ltb (n - (z + 1) + (w - c) + r) (n + w) (omega arith))

  term : ℕ → ℕ
  term i = coefficient xs i * down ys (z + c) i

  low : (i : ℕ) → i < z + 1 - n → term i ≡ 0
  unfolding term
  low i l = rw (lt-ltb i (suc (z + c)) (omega arith), coefficient-past ys (z + c - i) (omega arith), mul-zero)

  high : (i : ℕ) → m ≤ i → term i ≡ 0
  unfolding term
  high i l = rw (coefficient-past xs i (omega arith), zero-mul)

  after : (i : ℕ) → suc (z + c) ≤ i → term i ≡ 0
  unfolding term
  after i l = rw (le-ltb i (suc (z + c)) l, mul-zero)

  pub column : dot (coefficient xs) (backwards w ys) (z + 1 - n) (n - (z + 1) + (w - c)) (min (z + (w + 1)) m - (z + 1 - n)) ≡ product_at xs ys (z + c)
  unfolding term
  column =
      sum_same count (λ r. coefficient xs (z + 1 - n + r) * backwards w ys (n - (z + 1) + (w - c) + r)) (λ r. term (z + 1 - n + r)) (λ r l. rw (backwards-down r))
      ∙ sym (sum-part term (z + 1 - n) count (z + (w + 1)) (omega arith) low (λ i l h. high i (omega arith)))
      ∙ sum-part term 0 (suc (z + c)) (z + (w + 1)) (omega arith) (λ i l. absurd (omega arith)) (λ i l h. after i (omega arith))
      ∙ sum_same (suc (z + c)) (λ r. term (0 + r)) (λ i. coefficient xs i * coefficient ys (z + c - i)) (λ i l. rw (zero-add i, lt-ltb i (suc (z + c)) l))
    where
      count : ℕ
      count = min (z + (w + 1)) m - (z + 1 - n)

-- ---- the whole

pub gathered-most : (b m : ℕ) (xs ys : List ℕ) → packed b (upto m (product_at xs ys)) ≤ packed b (product xs ys)
gathered-most b m xs ys =
    packed-most b (upto m (product_at xs ys)) (product xs ys) (λ j. rw (coefficient-product xs ys j) (upto-most m (product_at xs ys) j))

module _ (k la lb : ℕ) (a b : List ℕ) (ha : length a ≤ la * k) (hb : length b ≤ lb * k) where
  -- all of the columns make the product, whatever the base
  all-columns : (q m : ℕ) → la + lb ≤ suc m → packed (q ^ k) (upto m (product_at (block_list q k la a) (block_list q k lb b))) ≡ packed q (product a b)
  all-columns q m h =
      packed-agree (q ^ k) (upto m (product_at xs ys)) (product xs ys) (λ j. at j (dec_lt j m))
      ∙ packed-product (q ^ k) xs ys
      ∙ rw (packed-blocks q k a la ha, packed-blocks q k b lb hb) (sym (packed-product q a b))
    where
      xs : List ℕ
      xs = block_list q k la a

      ys : List ℕ
      ys = block_list q k lb b

      most : (x y j : ℕ) → x + y ≤ suc j → product_length x y ≤ j
      most zero y j l = zero-le
      most (suc x) zero j l = zero-le
      most (suc x) (suc y) j l = omega arith

      at : (j : ℕ) → Dec (j < m) → coefficient (upto m (product_at xs ys)) j ≡ coefficient (product xs ys) j
      at j (yes l) = upto-at m (product_at xs ys) j l ∙ sym (coefficient-product xs ys j)
      at j (no l) = upto-past m (product_at xs ys) j (omega arith) ∙ sym (coefficient-past (product xs ys) j (rw length-product (most (length xs) (length ys) j (omega (arith, length-upto la (block_at q k a), length-upto lb (block_at q k b))))))

  pub gathered : (m : ℕ) (acc : List ℕ) → la + lb ≤ suc m → ((q : ℕ) → packed q acc ≡ packed (q ^ k) (upto m (product_at (block_list q k la a) (block_list q k lb b))))
      → (j : ℕ) → coefficient acc j ≡ product_at a b j
  gathered m acc h e j = packed-same acc (product a b) (λ q. e q ∙ all-columns q m h) j ∙ coefficient-product a b j
