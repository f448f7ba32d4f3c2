-- What the workers of a product ask of each other. Definitions only. What they do to the sums is told by what the list of sums is worth in every base
-- b, as BatchLaws says: fields that are added from place at on are worth b^at times themselves, a block is a digit in the base b^k, and the whole
-- gathering is one product of two numbers.
--     Packable s xs                      a list whose blocks can be packed
--     packed_back s xs count r            word r of its blocks backwards: three words of empty blocks, then the highest of count blocks
--     ToMultiply s a b out               two lists and a list lent for their product: nothing is refused and there is something to write
--     WritesProduct s a b old new        these are written, and what stood after them stays
--     Blank ws m                         words that are zero, and at least m of them
--     Room s a b xs ys sums              blank lists, long enough for the blocks and the sums of a and b
--     Gathering s a b xs ys sums         the blocks of a lie in xs and those of b backwards in ys; the sums are blank
--     Sums a b old sums                  the sums are the product's coefficients, unreduced; sum_residue p sums j is one modulo p
--     Batching xs ys                     words below 2^32, and the sum of their products fits a word, from each of the first four places of ys on
--     BatchWords xs ys w1 w2 w3 w4       the words of one batch in four columns: each is the sum of the products of those words
--     fields_in t k b w                   the 2k-1 fields of the word w, as a number in the base b
--     AddsWord t m word at old new       the word's m lowest fields are added to the sums from place at on: told by what the sums are in every base
--     AddingWords t k w1 w2 w3 w4 at sums, AddsWords t k w1 w2 w3 w4 at old new
--                                        four words, each k places above the one before: room for their fields, and that they are added
--     AddsColumns s xs ys i j count at old new
--                                        four columns of products of words are, told the same way
--     AddingColumns s xs ys i j count at sums
--                                        words to be multiplied, and sums with room for four columns of them from place at on
use Rattle.std.specs.Prelude.{ℕ, suc, ◌+◌, ◌-◌, ◌*◌, ◌%◌, ◌^◌, ◌≤◌, ◌<◌, ◌≡◌, List, length}
use Rattle.polynomials.specs.Indices.{filled}
use Rattle.polynomials.specs.Lists.{coefficient, product_at, Below}
use Rattle.polynomials.specs.Places.{packed}
use Rattle.polynomials.specs.Blocks.{blocks, block_at, block_list, dot, spread, backwards}
use Rattle.settings.specs.Limits.{most_coefficients, word_bits, longest_factor}
use Rattle.settings.specs.Settings.{base}
use Rattle.packed.specs.Taken.{taken}
use Rattle.settings.specs.Bounds.{Bounds}
use Rattle.packed.specs.Products.{product_residue}
use Rattle.packed.specs.BatchLaws.{PackedWords, columns_worth}
use Rattle.settings.specs.declared.setting.Setting.{Setting}

pub record Packable (s : Setting) (xs : List ℕ) : Type 0 where
  pub bounded : Bounds s
  pub below : Below s.p xs
  pub size : length xs ≤ longest_factor

abbrev pub packed_back : Setting → List ℕ → ℕ → ℕ → ℕ
packed_back s xs count r = block_at (base s) s.k (taken s.p xs) (count + 2 - r)

pub record ToMultiply (s : Setting) (a b out : List ℕ) : Type 0 where
  pub left : Packable s a
  pub right : Packable s b
  pub left_some : 0 < length a
  pub right_some : 0 < length b
  pub room : length a + length b ≤ suc (length out)

abbrev pub sum_residue : ℕ → List ℕ → ℕ → ℕ
sum_residue p sums j = coefficient sums j % p

abbrev pub WritesProduct : Setting → List ℕ → List ℕ → List ℕ → List ℕ → Type 0
WritesProduct s a b old new = new ≡ filled (length a + length b - 1) (product_residue s.p a b) old

pub record Blank (ws : List ℕ) (m : ℕ) : Type 0 where
  pub zeros : (i : ℕ) → coefficient ws i ≡ 0
  pub room : m ≤ length ws

pub record Room (s : Setting) (a b xs ys sums : List ℕ) : Type 0 where
  pub left : Blank xs (blocks s.k (length a))
  pub right : Blank ys (blocks s.k (length b) + 6)
  pub all : Blank sums ((blocks s.k (length a) + blocks s.k (length b) + 3) * s.k)

pub record Gathering (s : Setting) (a b xs ys sums : List ℕ) : Type 0 where
  pub left : Packable s a
  pub right : Packable s b
  pub left_some : 0 < length a
  pub right_some : 0 < length b
  pub left_words : (i : ℕ) → coefficient xs i ≡ coefficient (block_list (base s) s.k (blocks s.k (length a)) a) i
  pub right_words : (r : ℕ) → coefficient ys r ≡ backwards 3 (block_list (base s) s.k (blocks s.k (length b)) b) r
  pub left_room : blocks s.k (length a) ≤ length xs
  pub right_room : blocks s.k (length b) + 6 ≤ length ys
  pub blank : Blank sums ((blocks s.k (length a) + blocks s.k (length b) + 3) * s.k)

pub record Sums (a b old sums : List ℕ) : Type 0 where
  pub size : length sums ≡ length old
  pub coefficient_of : (j : ℕ) → coefficient sums j ≡ product_at a b j

pub record Batching (xs ys : List ℕ) : Type 0 where
  pub room : length xs + 3 ≤ length ys
  pub left_below : Below (2 ^ 32) xs
  pub right_below : Below (2 ^ 32) ys
  pub fits : (u : ℕ) → u ≤ 3 → dot (coefficient xs) (coefficient ys) 0 u (length xs) < 2 ^ word_bits

pub record BatchWords (xs ys : List ℕ) (first second third fourth : ℕ) : Type 0 where
  pub at_3 : first ≡ dot (coefficient xs) (coefficient ys) 0 3 (length xs)
  pub at_2 : second ≡ dot (coefficient xs) (coefficient ys) 0 2 (length xs)
  pub at_1 : third ≡ dot (coefficient xs) (coefficient ys) 0 1 (length xs)
  pub at_0 : fourth ≡ dot (coefficient xs) (coefficient ys) 0 0 (length xs)

pub record AddsWord (t m word at : ℕ) (old new : List ℕ) : Type 0 where
  pub size : length new ≡ length old
  pub in_base : (b : ℕ) → packed b new ≡ packed b old + spread (2 ^ t) m b word * b ^ at

abbrev pub fields_in : ℕ → ℕ → ℕ → ℕ → ℕ
fields_in t k b w = spread (2 ^ t) (2 * k - 1) b w

pub record AddingWords (t k w1 w2 w3 w4 at : ℕ) (sums : List ℕ) : Type 0 where
  pub width : t < word_bits
  pub k_low : 1 ≤ k
  pub k_high : k ≤ most_coefficients
  pub near : at < 2 ^ 32
  pub room : at + 5 * k ≤ suc (length sums)
  pub total : packed 1 sums + (fields_in t k 1 w1 + fields_in t k 1 w2 + fields_in t k 1 w3 + fields_in t k 1 w4) < 2 ^ word_bits

pub record AddsWords (t k w1 w2 w3 w4 at : ℕ) (old new : List ℕ) : Type 0 where
  pub size : length new ≡ length old
  pub in_base : (b : ℕ) → packed b new
      ≡ packed b old + (fields_in t k b w1 * b ^ at + fields_in t k b w2 * b ^ (at + k) + fields_in t k b w3 * b ^ (at + 2 * k) + fields_in t k b w4 * b ^ (at + 3 * k))

pub record AddsColumns (s : Setting) (xs ys : List ℕ) (i j count at : ℕ) (old new : List ℕ) : Type 0 where
  pub size : length new ≡ length old
  pub in_base : (b : ℕ) → packed b new ≡ packed b old + columns_worth s b xs ys i j count at

pub record AddingColumns (s : Setting) (xs ys : List ℕ) (i j count at : ℕ) (sums : List ℕ) : Type 0 where
  pub bounded : Bounds s
  pub left : PackedWords s xs
  pub right : PackedWords s ys
  pub left_room : i + count ≤ length xs
  pub right_room : j + 3 + count ≤ length ys
  pub room : at + 5 * s.k ≤ suc (length sums)
  pub near : at < 2 ^ 32
  pub total : packed 1 sums + columns_worth s 1 xs ys i j count at < 2 ^ word_bits
