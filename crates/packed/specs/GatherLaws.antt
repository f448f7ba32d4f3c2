-- The sums of a product, four columns at a time, on plain values. Assumes nothing.
--     Gathered s a b old sums z   the first z columns of the product of a and b are in the sums, told by what the sums are in every base
--     block-few                   a list has at most 4,096 blocks
--     columns-adding              before the next four columns, which begin with block z: there is room, and no sum leaves its 64 bits
--     gathered-more               after them, those are in the sums too
--     gathered_none               before the first, none are
--     gathered-all                after all of them, the sums are the product's coefficients
--     blocks-lie                  blank lists that were filled with the words of the blocks are as gathering asks
--     sums-enough                 the sums have a place for every coefficient of the product
--     sums-written                the remainders of the sums are the product's coefficients modulo p
--     blank-room                  zeros, and how many are enough for lists of a length
use Rattle.std.specs.Prelude.{ℕ, ◌+◌, ◌-◌, ◌*◌, ◌^◌, ◌≤◌, ◌<◌, min, ◌≡◌, refl, Bool, true, false, List, [], ltb, length, replicate}
use Rattle.std.proofs.Common.{sym, ap, ◌∙◌, le_trans, mul-le-mul, mul-le-mul_right, arith, lt-ltb, le-ltb}
use Rattle.std.proofs.Math.Path.{fun_ext}
use Rattle.std.proofs.Math.Nat.{add-zero}
use Rattle.std.proofs.Math.Decide.{dec_lt}
use Rattle.std.proofs.lemmas.List.{length-replicate}
use Rattle.polynomials.specs.Indices.{pick, upto, filled}
use Rattle.polynomials.specs.IndexLaws.{length-upto, upto-past, sum_same}
use Rattle.polynomials.specs.Lists.{coefficient, product_at, product, Below}
use Rattle.polynomials.specs.ListLaws.{coefficient-zeros, filled_at, filled-after, length-filled}
use Rattle.polynomials.specs.Places.{packed}
use Rattle.polynomials.specs.PlaceLaws.{packed-agree, packed-four, packed-product, packed-zeros, packed-one-most, power-power}
use Rattle.polynomials.specs.Blocks.{blocks, block, block_at, block_list, spread, backwards}
use Rattle.polynomials.specs.BlockLaws.{blocks-enough, blocks-most, rounded-up-few, blocks-some, block-operand, packed-blocks, coefficient-blocks, spread-block, spread-zero, column, gathered-most, gathered}
use Rattle.settings.specs.Limits.{largest_modulus, longest_factor}
use Rattle.settings.specs.Settings.{base}
use Rattle.packed.specs.Taken.{taken, taken-below}
use Rattle.settings.specs.Bounds.{Bounds}
use Rattle.packed.specs.BatchLaws.{PackedWord, worth, column_worth, columns_worth, packed-word}
use Rattle.packed.specs.Gathering.{Packable, packed_back, ToMultiply, WritesProduct, sum_residue, Blank, Room, Gathering, Sums, AddsColumns, AddingColumns}
use Rattle.settings.specs.declared.setting.Setting.{Setting}

-- the blocks of a list, each packed in the base c
abbrev blocks_in : Setting → ℕ → List ℕ → List ℕ
blocks_in s c a = block_list c s.k (blocks s.k (length a)) a

pub record Gathered (s : Setting) (a b old sums : List ℕ) (z : ℕ) : Type 0 where
  pub size : length sums ≡ length old
  pub in_base : (c : ℕ) → packed c sums ≡ packed (c ^ s.k) (upto z (product_at (blocks_in s c a) (blocks_in s c b)))

-- ---- words

zero_word : (s : Setting) → Bounds s → PackedWord s 0
zero_word s b =
    let none : packed (base s) (replicate s.k 0) ≡ 0 = packed-zeros (base s) [] s.k in
    rw none at (packed-word s (replicate s.k 0) b (length-replicate s.k 0) zeros)
  where
    zeros : Below s.p (replicate s.k 0)
    zeros j =
        let z : coefficient (replicate s.k 0) j ≡ 0 = coefficient-zeros [] s.k j in
        omega (arith, b.range.choice.p_low)

module _ (s : Setting) (xs : List ℕ) (pre : Packable s xs) where
  some-k : 0 < s.k
  some-k = pre.bounded.range.choice.k_low

  enough : length xs ≤ blocks s.k (length xs) * s.k
  enough = blocks-enough s.k (length xs) some-k

  below : Below (base s) xs
  below j = let h = pre.below j in omega (arith, pre.bounded.coefficient_fits)

  small : packed 1 xs ≤ longest_factor * largest_modulus
  small = le_trans (packed-one-most s.p xs pre.below) (mul-le-mul pre.size pre.bounded.range.choice.p_high)

  block-word : (i : ℕ) → PackedWord s (block_at (base s) s.k xs i)
  block-word i = packed-word s (block s.k xs i) pre.bounded (length-upto s.k (λ j. coefficient xs (i * s.k + j))) (block-operand s.p s.k xs i pre.below).below

  pub block-few : (m : ℕ) → m ≡ blocks s.k (length xs) → m ≤ longest_factor
  block-few m e = omega (arith, pre.size, rounded-up-few (length xs) s.k some-k)

  -- a word of the list of blocks, and of the list backwards
  at-word : (i : ℕ) → coefficient (blocks_in s (base s) xs) i ≡ block_at (base s) s.k xs i
  at-word i = coefficient-blocks (base s) s.k xs (blocks s.k (length xs)) i enough

  at-worth : (c i : ℕ) → spread (base s) s.k c (coefficient (blocks_in s (base s) xs) i) ≡ coefficient (blocks_in s c xs) i
  at-worth c i = rw (at-word i, coefficient-blocks c s.k xs (blocks s.k (length xs)) i enough) (spread-block (base s) s.k c xs i below)

  back-word : (r : ℕ) → PackedWord s (backwards 3 (blocks_in s (base s) xs) r)
  back-word r = go (ltb r (length (blocks_in s (base s) xs) + 3))
    where
      go : (t : Bool) → PackedWord s (pick t (coefficient (blocks_in s (base s) xs) (length (blocks_in s (base s) xs) + 3 - 1 - r)) 0)
      go true = rw (at-word (length (blocks_in s (base s) xs) + 3 - 1 - r)) (block-word (length (blocks_in s (base s) xs) + 3 - 1 - r))
      go false = zero_word s pre.bounded

  back-worth : (c r : ℕ) → spread (base s) s.k c (backwards 3 (blocks_in s (base s) xs) r) ≡ backwards 3 (blocks_in s c xs) r
  back-worth c r =
      let m : ℕ = blocks s.k (length xs) in
      let e : length (blocks_in s c xs) ≡ m = length-upto m (block_at c s.k xs) in
      let e2 : length (blocks_in s (base s) xs) ≡ m = length-upto m (block_at (base s) s.k xs) in
      rw (e, e2) (go (ltb r (m + 3)) (m + 3 - 1 - r))
    where
      go : (t : Bool) (i : ℕ) → spread (base s) s.k c (pick t (coefficient (blocks_in s (base s) xs) i) 0) ≡ pick t (coefficient (blocks_in s c xs) i) 0
      go true i = at-worth c i
      go false i = spread-zero (base s) s.k c

-- ---- columns

module _ (s : Setting) (a b xs ys old : List ℕ) (pre : Gathering s a b xs ys old) (z : ℕ) (inside : z + 1 < blocks s.k (length a) + blocks s.k (length b)) where
  abbrev m : ℕ
  m = blocks s.k (length a)

  abbrev n : ℕ
  n = blocks s.k (length b)

  abbrev count : ℕ
  count = min (z + 4) m - (z + 1 - n)

  -- column z + u of the product of the blocks, in the base c
  column-at : (c u : ℕ) → u ≤ 3 → column_worth s c xs ys (z + 1 - n) (n - (z + 1) + (3 - u)) count ≡ product_at (blocks_in s c a) (blocks_in s c b) (z + u)
  column-at c u h =
      let law = column 3 (blocks_in s c a) (blocks_in s c b) m n z u (length-upto m (block_at c s.k a)) (length-upto n (block_at c s.k b)) h (blocks-some s.k (length b) (some-k s b pre.right) pre.right_some) inside in
      sum_same count (λ r. worth s c xs (z + 1 - n + r) * worth s c ys (n - (z + 1) + (3 - u) + r)) (λ r. coefficient (blocks_in s c a) (z + 1 - n + r) * backwards 3 (blocks_in s c b) (n - (z + 1) + (3 - u) + r))
      (λ r l. rw (pre.left_words (z + 1 - n + r), pre.right_words (n - (z + 1) + (3 - u) + r), at-worth s a pre.left c (z + 1 - n + r), back-worth s b pre.right c (n - (z + 1) + (3 - u) + r)))
      ∙ law

  -- the columns so far, and the next four
  columns-at : (c : ℕ) → packed (c ^ s.k) (upto z (product_at (blocks_in s c a) (blocks_in s c b))) + columns_worth s c xs ys (z + 1 - n) (n - (z + 1)) count (z * s.k)
      ≡ packed (c ^ s.k) (upto (z + 4) (product_at (blocks_in s c a) (blocks_in s c b)))
  unfolding columns_worth
  columns-at c =
      let c0 : column_worth s c xs ys (z + 1 - n) (n - (z + 1) + 3) count ≡ product_at (blocks_in s c a) (blocks_in s c b) z = rw (add-zero z) at (column-at c 0 (omega arith)) in
      rw (c0, column-at c 1 (omega arith), column-at c 2 (omega arith), column-at c 3 (omega arith), place 0 (z * s.k) (omega arith), place 1 (z * s.k + s.k) (omega arith), place 2 (z * s.k + 2 * s.k) (omega arith), place 3 (z * s.k + 3 * s.k) (omega arith), add-zero z)
      (sym (packed-four (c ^ s.k) (product_at (blocks_in s c a) (blocks_in s c b)) z))
    where
      place : (u at : ℕ) → at ≡ (z + u) * s.k → c ^ at ≡ (c ^ s.k) ^ (z + u)
      place u at e = rw e (sym (power-power c s.k (z + u)))

  module _ (sums : List ℕ) (so_far : Gathered s a b old sums z) where
    -- all coefficients of the product together
    total : packed 1 sums + columns_worth s 1 xs ys (z + 1 - n) (n - (z + 1)) count (z * s.k) < 2 ^ 64
    total =
        let f : ℕ → ℕ = product_at (blocks_in s 1 a) (blocks_in s 1 b) in
        let most : packed (1 ^ s.k) (upto (z + 4) f) ≤ packed (1 ^ s.k) (product (blocks_in s 1 a) (blocks_in s 1 b)) = gathered-most (1 ^ s.k) (z + 4) (blocks_in s 1 a) (blocks_in s 1 b) in
        let whole : packed (1 ^ s.k) (product (blocks_in s 1 a) (blocks_in s 1 b)) ≡ packed 1 a * packed 1 b = packed-product (1 ^ s.k) (blocks_in s 1 a) (blocks_in s 1 b) ∙ rw (packed-blocks 1 s.k a m (enough s a pre.left), packed-blocks 1 s.k b n (enough s b pre.right)) in
        rw (so_far.in_base 1, columns-at 1) (omega (arith, mul-le-mul (small s a pre.left) (small s b pre.right)))

    pub columns-adding : AddingColumns s xs ys (z + 1 - n) (n - (z + 1)) count (z * s.k) sums
    columns-adding =
        let k_high = pre.left.bounded.range.choice.k_high in
        let few-a : m ≤ longest_factor = block-few s a pre.left m refl in
        let few-b : n ≤ longest_factor = block-few s b pre.right n refl in
        record {
          bounded = pre.left.bounded;
          left = λ i. rw (pre.left_words i, at-word s a pre.left i) (block-word s a pre.left i);
          right = λ i. rw (pre.right_words i) (back-word s b pre.right i);
          left_room = omega (arith, pre.left_room);
          right_room = omega (arith, pre.right_room);
          room = omega (arith, so_far.size, pre.blank.room, mul-le-mul_right {m = z + 5} {n = m + n + 3} s.k (omega arith));
          near = omega (arith, mul-le-mul {n₁ = z} {m₁ = s.k} {n₂ = 8192} {m₂ = 8} (omega arith) k_high);
          total = total;
        }

    pub gathered-more : {new : List ℕ} → AddsColumns s xs ys (z + 1 - n) (n - (z + 1)) count (z * s.k) sums new → Gathered s a b old new (z + 4)
    gathered-more h = record { size = h.size ∙ so_far.size; in_base = λ c. h.in_base c ∙ rw (so_far.in_base c) (columns-at c) }

-- ---- the first and the last

module _ (s : Setting) (a b xs ys old : List ℕ) (pre : Gathering s a b xs ys old) where
  pub gathered_none : Gathered s a b old old 0
  gathered_none = record { size = refl; in_base = λ c. packed-agree c old [] pre.blank.zeros }

  pub gathered-all : (sums : List ℕ) (z : ℕ) → Gathered s a b old sums z → blocks s.k (length a) + blocks s.k (length b) ≤ z + 1 → Sums a b old sums
  gathered-all sums z so_far h = record {
    size = so_far.size;
    coefficient_of = gathered s.k (blocks s.k (length a)) (blocks s.k (length b)) a b (enough s a pre.left) (enough s b pre.right) z sums (omega arith) so_far.in_base;
  }

-- ---- before and after

module _ (s : Setting) (a b out xs ys sums : List ℕ) (pre : ToMultiply s a b out) (room : Room s a b xs ys sums) (m n : ℕ) (em : m ≡ blocks s.k (length a)) (en : n ≡ blocks s.k (length b)) where
  left-lie : (i : ℕ) → coefficient (filled m (block_at (base s) s.k (taken s.p a)) xs) i ≡ coefficient (blocks_in s (base s) a) i
  left-lie i = go (dec_lt i m)
    where
      go : Dec (i < m) → coefficient (filled m (block_at (base s) s.k (taken s.p a)) xs) i ≡ coefficient (blocks_in s (base s) a) i
      go (yes l) = filled_at m (block_at (base s) s.k (taken s.p a)) xs i l ∙ rw (taken-below s.p a pre.left.below) (sym (at-word s a pre.left i))
      go (no l) =
          filled-after m (block_at (base s) s.k (taken s.p a)) xs i (omega arith)
          ∙ room.left.zeros i ∙ sym (upto-past (blocks s.k (length a)) (block_at (base s) s.k a) i (omega arith))

  right-lie : (r : ℕ) → coefficient (filled (n + 3) (packed_back s b n) ys) r ≡ backwards 3 (blocks_in s (base s) b) r
  right-lie r =
      let e : length (blocks_in s (base s) b) ≡ n = length-upto (blocks s.k (length b)) (block_at (base s) s.k b) ∙ sym en in
      rw e (go (dec_lt r (n + 3)))
    where
      go : Dec (r < n + 3) → coefficient (filled (n + 3) (packed_back s b n) ys) r ≡ pick (ltb r (n + 3)) (coefficient (blocks_in s (base s) b) (n + 3 - 1 - r)) 0
      go (yes l) =
          let i : n + 3 - 1 - r ≡ n + 2 - r = omega arith in
          filled_at (n + 3) (packed_back s b n) ys r l ∙ rw (lt-ltb r (n + 3) l, i, taken-below s.p b pre.right.below) (sym (at-word s b pre.right (n + 2 - r)))
      go (no l) = filled-after (n + 3) (packed_back s b n) ys r (omega arith) ∙ room.right.zeros r ∙ rw (le-ltb r (n + 3) (omega arith))

  pub blocks-lie : {xs2 ys2 : List ℕ} → xs2 ≡ filled m (block_at (base s) s.k (taken s.p a)) xs → ys2 ≡ filled (n + 3) (packed_back s b n) ys → Gathering s a b xs2 ys2 sums
  blocks-lie {xs2} {ys2} hx hy = record {
    left = pre.left;
    right = pre.right;
    left_some = pre.left_some;
    right_some = pre.right_some;
    left_words = λ i. rw hx (left-lie i);
    right_words = λ r. rw hy (right-lie r);
    left_room = rw (hx, length-filled m (block_at (base s) s.k (taken s.p a)) xs (omega (arith, room.left.room))) room.left.room;
    right_room = rw (hy, length-filled (n + 3) (packed_back s b n) ys (omega (arith, room.right.room))) room.right.room;
    blank = room.all;
  }

  -- the sums hold every coefficient of the product
  pub sums-enough : length a + length b - 1 ≤ length sums
  sums-enough = omega (arith, enough s a pre.left, enough s b pre.right, room.all.room)

  pub sums-written : {sums2 new : List ℕ} → Sums a b sums sums2 → new ≡ filled (length a + length b - 1) (sum_residue s.p sums2) out → WritesProduct s a b out new
  sums-written {sums2} h e = e ∙ ap (λ (f : ℕ → ℕ). filled (length a + length b - 1) f out) (fun_ext (λ j. rw (h.coefficient_of j)))

pub blank-room : (s : Setting) (a b out : List ℕ) → ToMultiply s a b out → (x y z : ℕ) → length a ≤ x → length b + 6 ≤ y → length a + length b + 40 ≤ z
    → Room s a b (replicate x 0) (replicate y 0) (replicate z 0)
blank-room s a b out pre x y z hx hy hz =
    let k_high = pre.left.bounded.range.choice.k_high in
    let few-a = rounded-up-few (length a) s.k (some-k s a pre.left) in
    let few-b = rounded-up-few (length b) s.k (some-k s b pre.right) in
    record {
      left = blank x (omega arith);
      right = blank y (omega arith);
      all = blank z (omega (arith, blocks-most s.k (length a), blocks-most s.k (length b), some-k s a pre.left));
    }
  where
    blank : (w : ℕ) {m : ℕ} → m ≤ w → Blank (replicate w 0) m
    blank w h = record { zeros = λ i. coefficient-zeros [] w i; room = rw length-replicate h }
