-- `add_four_words` meets its contract: one word after the other is added, and no sum is above all of them together. Assumes nothing.
use Rattle.std.proofs.Common.{ℕ, ◌≡◌, ◌+◌, ◌-◌, ◌*◌, ◌^◌, ◌≤◌, ◌<◌, List, length, ◌∙◌, arith}
use Rattle.polynomials.specs.Places.{packed}
use Rattle.polynomials.specs.PlaceLaws.{one_power}
use Rattle.polynomials.specs.Blocks.{spread}
use Rattle.packed.specs.Gathering.{AddsWord, AddingWords}
use Rattle.packed.proofs.columns.add_four_words.Goals as goal

module _ (t k w1 w2 w3 w4 at : ℕ) (sums : List ℕ) (pre : AddingWords t k w1 w2 w3 w4 at sums) where
  -- one more word added, in the base 1
  adds_one : {word place : ℕ} {old new : List ℕ} → AddsWord t (2 * k - 1) word place old new → packed 1 new ≡ packed 1 old + spread (2 ^ t) (2 * k - 1) 1 word
  adds_one {place = place} h = h.in_base 1 ∙ rw (one_power place) (omega arith)

  abbrev Room : ℕ → ℕ → List ℕ → Type 0
  Room word place before = (t < 64) × (place + (2 * k - 1) ≤ length before) × (packed 1 before + spread (2 ^ t) (2 * k - 1) 1 word < 2 ^ 64)

  -- room for a word more, where with it there is no more than the total
  room : (word place : ℕ) (before : List ℕ) → length before ≡ length sums → place ≤ at + 3 * k → packed 1 before + spread (2 ^ t) (2 * k - 1) 1 word < 2 ^ 64 → Room word place before
  room word place before size h fits = (pre.width, omega (arith, pre.room, pre.k_low), fits)

  module _ {s1 : List ℕ} (h1 : AddsWord t (2 * k - 1) w1 at sums s1) where
    room-2 : Room w2 (at + k) s1
    room-2 = room w2 (at + k) s1 h1.size (omega arith) (omega (arith, pre.total, adds_one h1))

    module _ {s2 : List ℕ} (h2 : AddsWord t (2 * k - 1) w2 (at + k) s1 s2) where
      room-3 : Room w3 (at + 2 * k) s2
      room-3 = room w3 (at + 2 * k) s2 (h2.size ∙ h1.size) (omega arith) (omega (arith, pre.total, adds_one h1, adds_one h2))

      module _ {s3 : List ℕ} (h3 : AddsWord t (2 * k - 1) w3 (at + 2 * k) s2 s3) where
        room-4 : Room w4 (at + 3 * k) s3
        room-4 = room w4 (at + 3 * k) s3 (h3.size ∙ h2.size ∙ h1.size) (omega arith) (omega (arith, pre.total, adds_one h1, adds_one h2, adds_one h3))

pub add_fields-requires-2 : goal.add_fields-requires-2
add_fields-requires-2 c =
    let a = c.args in
    let w = a.words in
    room-2 a.t a.k w.first w.second w.third w.fourth a.at a.sums.now c.requires c.add_fields.ensures

pub add_fields-requires-3 : goal.add_fields-requires-3
add_fields-requires-3 c =
    let a = c.args in
    let w = a.words in
    room-3 a.t a.k w.first w.second w.third w.fourth a.at a.sums.now c.requires c.add_fields.ensures c.add_fields-2.ensures

pub add_fields-requires-4 : goal.add_fields-requires-4
add_fields-requires-4 c =
    let a = c.args in
    let w = a.words in
    room-4 a.t a.k w.first w.second w.third w.fourth a.at a.sums.now c.requires c.add_fields.ensures c.add_fields-2.ensures c.add_fields-3.ensures
