-- `add_four_batches` meets its contract: its words, each taken apart and put together in another base, are the columns' worth there. Assumes nothing.
use Rattle.std.proofs.Common.{ℕ, ◌≡◌, refl, ◌+◌, ◌-◌, ◌*◌, ◌^◌, ◌≤◌, ◌<◌, List, length, ◌∙◌, zero-add, arith}
use Rattle.polynomials.specs.IndexLaws.{sum_same}
use Rattle.polynomials.specs.Lists.{coefficient, part, Below}
use Rattle.polynomials.specs.ListLaws.{length_part, coefficient-part, part_below}
use Rattle.polynomials.specs.Blocks.{dot, spread}
use Rattle.settings.specs.Bounds.{Bounds}
use Rattle.packed.specs.BatchLaws.{PackedWords, column_worth, columns_worth, columns-one, column_fits, batch-worth}
use Rattle.packed.specs.Gathering.{Batching, BatchWords, AddingWords, AddsWords, AddsColumns, AddingColumns}
use Rattle.settings.specs.declared.setting.Setting.{Setting}
use Rattle.packed.proofs.columns.add_four_batches.Goals as goal

word_below : (s : Setting) (ws : List ℕ) → Bounds s → PackedWords s ws → Below (2 ^ 32) ws
word_below s ws b h i = rw (h i).whole at (b.word_fits _ (h i).operand)

module _ (s : Setting) (bounded : Bounds s) (xs ys : List ℕ) (i j count at : ℕ) (sums : List ℕ) (pre : AddingColumns s xs ys i j count at sums) (few : count ≤ s.n) where
  abbrev left : List ℕ
  left = part i (i + count) xs

  abbrev right : List ℕ
  right = part j (j + count + 3) ys

  left-length : length left ≡ count
  left-length = length_part i (i + count) xs pre.left_room ∙ omega arith

  -- products of the parts' words are products of the lists' words
  dots : (u : ℕ) → u ≤ 3 → dot (coefficient left) (coefficient right) 0 u (length left) ≡ dot (coefficient xs) (coefficient ys) i (j + u) count
  dots u h =
      rw left-length
      (sum_same count (λ r. coefficient left (0 + r) * coefficient right (u + r)) (λ r. coefficient xs (i + r) * coefficient ys (j + u + r)) (λ r l. term r l))
    where
      term : (r : ℕ) → r < count → coefficient left (0 + r) * coefficient right (u + r) ≡ coefficient xs (i + r) * coefficient ys (j + u + r)
      term r l =
          let there : j + (u + r) ≡ j + u + r = omega arith in
          rw (zero-add r, coefficient-part i (i + count) xs r (omega arith), coefficient-part j (j + count + 3) ys (u + r) (omega arith), there)

  batching : Batching left right
  batching = record {
    room = omega (arith, left-length, length_part j (j + count + 3) ys (omega (arith, pre.right_room)));
    left_below = part_below (2 ^ 32) i (i + count) xs (omega arith) (word_below s xs bounded pre.left);
    right_below = part_below (2 ^ 32) j (j + count + 3) ys (omega arith) (word_below s ys bounded pre.right);
    fits = λ u h. rw (dots u h) (column_fits s bounded xs ys pre.left pre.right i (j + u) count few);
  }

  module _ (w1 w2 w3 w4 : ℕ) (words : BatchWords left right w1 w2 w3 w4) where
    -- a word of the batch, in another base
    value : (u word b : ℕ) → u ≤ 3 → word ≡ dot (coefficient left) (coefficient right) 0 u (length left) → spread (2 ^ s.t) (2 * s.k - 1) b word ≡ column_worth s b xs ys i (j + u) count
    value u word b h e = rw (e, dots u h) (batch-worth s bounded xs ys pre.left pre.right i (j + u) count few b)

    value-1 : (b : ℕ) → spread (2 ^ s.t) (2 * s.k - 1) b w1 ≡ column_worth s b xs ys i (j + 3) count
    value-1 b = value 3 w1 b (omega arith) words.at_3

    value-2 : (b : ℕ) → spread (2 ^ s.t) (2 * s.k - 1) b w2 ≡ column_worth s b xs ys i (j + 2) count
    value-2 b = value 2 w2 b (omega arith) words.at_2

    value-3 : (b : ℕ) → spread (2 ^ s.t) (2 * s.k - 1) b w3 ≡ column_worth s b xs ys i (j + 1) count
    value-3 b = value 1 w3 b (omega arith) words.at_1

    value-4 : (b : ℕ) → spread (2 ^ s.t) (2 * s.k - 1) b w4 ≡ column_worth s b xs ys i (j + 0) count
    value-4 b = value 0 w4 b (omega arith) words.at_0

    -- where k is the number n
    asks : (n : ℕ) → s.k ≡ n → AddingWords s.t n w1 w2 w3 w4 at sums
    asks n e =
        rw (← e)
        (record {
          width = omega (arith, bounded.range.t_high);
          k_low = bounded.range.choice.k_low;
          k_high = bounded.range.choice.k_high;
          near = pre.near;
          room = pre.room;
          total = rw (value-1 1, value-2 1, value-3 1, value-4 1, ← columns-one s xs ys i j count at) pre.total;
        })

    gives : (n : ℕ) → s.k ≡ n → {new : List ℕ} → AddsWords s.t n w1 w2 w3 w4 at sums new → AddsColumns s xs ys i j count at sums new
    unfolding columns_worth
    gives n e {new} h =
        let same : AddsWords s.t s.k w1 w2 w3 w4 at sums new = rw e h in
        record { size = same.size; in_base = λ b. same.in_base b ∙ rw (value-1 b, value-2 b, value-3 b, value-4 b) }

pub batch-words-requires : goal.batch-words-requires
batch-words-requires c = let a = c.args in batching a.s.setting a.s.bounds a.xs.now a.ys.now a.i a.j a.count a.at a.sums.now c.requires.0 c.requires.1

pub add_four_words-requires : goal.add_four_words-requires
add_four_words-requires c =
    let a = c.args in
    let w = c.batch-words.result in
    asks a.s.setting a.s.bounds a.xs.now a.ys.now a.i a.j a.count a.at a.sums.now c.requires.0 c.requires.1 w.first w.second w.third w.fourth c.batch-words.ensures 1 c.in-1.is

pub add_four_words-requires-in-2 : goal.add_four_words-requires-in-2
add_four_words-requires-in-2 c =
    let a = c.args in
    let w = c.batch-words.result in
    asks a.s.setting a.s.bounds a.xs.now a.ys.now a.i a.j a.count a.at a.sums.now c.requires.0 c.requires.1 w.first w.second w.third w.fourth c.batch-words.ensures 2 c.in-2.is

pub add_four_words-requires-in-3 : goal.add_four_words-requires-in-3
add_four_words-requires-in-3 c =
    let a = c.args in
    let w = c.batch-words.result in
    asks a.s.setting a.s.bounds a.xs.now a.ys.now a.i a.j a.count a.at a.sums.now c.requires.0 c.requires.1 w.first w.second w.third w.fourth c.batch-words.ensures 3 c.in-3.is

pub add_four_words-requires-in-4 : goal.add_four_words-requires-in-4
add_four_words-requires-in-4 c =
    let a = c.args in
    let w = c.batch-words.result in
    asks a.s.setting a.s.bounds a.xs.now a.ys.now a.i a.j a.count a.at a.sums.now c.requires.0 c.requires.1 w.first w.second w.third w.fourth c.batch-words.ensures 4 c.in-4.is

pub add_four_words-requires-in_default : goal.add_four_words-requires-in_default
add_four_words-requires-in_default c =
    let a = c.args in
    let w = c.batch-words.result in
    asks a.s.setting a.s.bounds a.xs.now a.ys.now a.i a.j a.count a.at a.sums.now c.requires.0 c.requires.1 w.first w.second w.third w.fourth c.batch-words.ensures a.s.setting.k refl

pub returns-in-1 : goal.returns-in-1
returns-in-1 c =
    let a = c.args in
    let w = c.batch-words.result in
    gives a.s.setting a.s.bounds a.xs.now a.ys.now a.i a.j a.count a.at a.sums.now c.requires.0 c.requires.1 w.first w.second w.third w.fourth c.batch-words.ensures 1 c.in-1.is c.add_four_words.ensures

pub returns-in-2 : goal.returns-in-2
returns-in-2 c =
    let a = c.args in
    let w = c.batch-words.result in
    gives a.s.setting a.s.bounds a.xs.now a.ys.now a.i a.j a.count a.at a.sums.now c.requires.0 c.requires.1 w.first w.second w.third w.fourth c.batch-words.ensures 2 c.in-2.is c.add_four_words-in-2.ensures

pub returns-in-3 : goal.returns-in-3
returns-in-3 c =
    let a = c.args in
    let w = c.batch-words.result in
    gives a.s.setting a.s.bounds a.xs.now a.ys.now a.i a.j a.count a.at a.sums.now c.requires.0 c.requires.1 w.first w.second w.third w.fourth c.batch-words.ensures 3 c.in-3.is c.add_four_words-in-3.ensures

pub returns-in-4 : goal.returns-in-4
returns-in-4 c =
    let a = c.args in
    let w = c.batch-words.result in
    gives a.s.setting a.s.bounds a.xs.now a.ys.now a.i a.j a.count a.at a.sums.now c.requires.0 c.requires.1 w.first w.second w.third w.fourth c.batch-words.ensures 4 c.in-4.is c.add_four_words-in-4.ensures

pub returns-in_default : goal.returns-in_default
returns-in_default c =
    let a = c.args in
    let w = c.batch-words.result in
    gives a.s.setting a.s.bounds a.xs.now a.ys.now a.i a.j a.count a.at a.sums.now c.requires.0 c.requires.1 w.first w.second w.third w.fourth c.batch-words.ensures a.s.setting.k refl c.add_four_words-in_default.ensures
