-- What the puts into a buffer make of it. Assumes nothing.
--     puts-size                   the buffer is as long as it was
--     puts-nothing, puts-on       nothing is put; and so it is from a place that was answered
--     puts-no-room                nothing has room
--     puts-byte                   a byte that is stored
--     puts-join, puts-spaced      a text, and another at the answered place, are one text; so are numbers, a space before each
--     put-fits                    a text from the first place on, if it has room: all of it stands there, and its length is answered
--     put_byte, put-cut           bytes are put one by one: a turn, and where the buffer ends
--     word-digits                 a number of 64 bits takes at most 20 digits
--     DigitsFrom n i rest bytes   a number's digits are being stored into 20 bytes, from the last one on: those from place i on stand, rest is to be
--                                 stored, and a digit at least
--     digits-none, digits-turn, digits-all
--                                 so it is before the first turn; a turn; and when all stand
use Rattle.std.specs.Prelude.{ℕ, suc, ◌+◌, ◌-◌, ◌/◌, ◌%◌, ◌^◌, ◌≤◌, ◌<◌, ◌≡◌, refl, List, [], ◌∷◌, ◌++◌, set, take, drop, replicate}
use Rattle.std.proofs.Common.{sym, ap, ◌∙◌, lt_of_lt_of_le, lt-ltb, le-ltb, le-leb, div-one, pos_of_ne-zero, add-one, arith, length-append, length-set, length-drop, take-append-drop, drop_of_length-le, get_or-set_same, get_or-set_other, get_or-drop, take-suc, take_all, drop-cons, drop-set-lt, lit≤}
use Rattle.std.proofs.Math.Nat.{sub-zero, pow-zero}
use Rattle.std.proofs.Math.Decide.{dec_lt}
use Rattle.std.proofs.Math.ListN.{length, get_or-append}
use Rattle.std.proofs.lemmas.Bool.{lt-leb}
use Rattle.polynomials.specs.IndexLaws.{length-upto, upto-at}
use Rattle.polynomials.specs.Lists.{coefficient}
use Rattle.polynomials.specs.ListLaws.{lists_agree, coefficient-after}
use Rattle.polynomials.specs.PlaceLaws.{field_next}
use Rattle.layout.specs.Decimals.{digits, decimal, digits-some, digits-most, digits_more, digits-is, length-decimal, decimal-at}
use Rattle.texts.specs.Putting.{spaced, pasted, Puts}
use Rattle.texts.specs.SpacedLaws.{spaced-join}

-- ---- what stands where

module _ (at : ℕ) (text old : List ℕ) where
  pasted-size : length (pasted at text old) ≡ length old
  unfolding pasted
  pasted-size = length-upto (length old) _

  module _ (j : ℕ) (room : j < length old) where
    pasted-before : j < at → coefficient (pasted at text old) j ≡ coefficient old j
    unfolding pasted
    pasted-before h = rw (upto-at (length old) _ j room, lt-leb at j h)

    pasted-inside : at ≤ j → j < at + length text → coefficient (pasted at text old) j ≡ coefficient text (j - at)
    unfolding pasted
    pasted-inside l h = rw (upto-at (length old) _ j room, le-leb at j l, lt-ltb j (at + length text) h)

    pasted-beyond : at + length text ≤ j → coefficient (pasted at text old) j ≡ coefficient old j
    unfolding pasted
    pasted-beyond h = rw (upto-at (length old) _ j room, le-leb at j (omega arith), le-ltb j (at + length text) h)

  module _ (after : List ℕ) (size : length after ≡ length old)
      (before : (j : ℕ) → j < length old → j < at → coefficient after j ≡ coefficient old j)
      (inside : (j : ℕ) → j < length old → at ≤ j → j < at + length text → coefficient after j ≡ coefficient text (j - at))
      (beyond : (j : ℕ) → j < length old → at + length text ≤ j → coefficient after j ≡ coefficient old j) where
    pasted-is : after ≡ pasted at text old
    pasted-is = lists_agree after (pasted at text old) (size ∙ sym pasted-size) (λ j l. same j (rw (← size) l) (dec_lt j at) (dec_lt j (at + length text)))
      where
        same : (j : ℕ) → j < length old → Dec (j < at) → Dec (j < at + length text) → coefficient after j ≡ coefficient (pasted at text old) j
        same j l (yes b) e = before j l b ∙ sym (pasted-before j l b)
        same j l (no b) (yes e) = inside j l (omega arith) e ∙ sym (pasted-inside j l (omega arith) e)
        same j l (no b) (no e) = beyond j l (omega arith) ∙ sym (pasted-beyond j l (omega arith))

  -- no place of the buffer is one of the text's
  pasted-none : ((j : ℕ) → j < length old → at ≤ j → j < at + length text → ⊥) → old ≡ pasted at text old
  pasted-none none = pasted-is old refl (λ j l b. refl) (λ j l b e. absurd (none j l b e)) (λ j l e. refl)

-- ---- puts

pub puts-size : {at : ℕ} {text old : List ℕ} {r : ℕ} {after : List ℕ} → Puts at text old r after → length after ≡ length old
puts-size {at} {text} {old} h = ap length h.bytes ∙ pasted-size at text old

pub puts-nothing : (at : ℕ) (old : List ℕ) → at ≤ suc (length old) → Puts at [] old at old
puts-nothing at old h = record { next = omega arith; bytes = pasted-none at [] old (λ j l b e. omega arith) }

pub puts-on : {at : ℕ} {text old : List ℕ} {r : ℕ} {after : List ℕ} → Puts at text old r after → Puts r [] after r after
puts-on {r = r} {after = after} h = puts-nothing r after (omega (arith, h.next, puts-size h))

pub puts-no-room : (at : ℕ) (text old : List ℕ) → length old ≤ at → length old < at + length text → Puts at text old (length old + 1) old
puts-no-room at text old h e = record { next = omega arith; bytes = pasted-none at text old (λ j l b e. omega arith) }

pub puts-byte : (at v : ℕ) (old : List ℕ) → at < length old → Puts at (v ∷ []) old (at + 1) (set old at v)
puts-byte at v old h =
    record {
      next = omega arith;
      bytes = pasted-is at (v ∷ []) old (set old at v) (length-set old at v) (λ j l b. other j (omega arith)) here (λ j l e. other j (omega arith));
    }
  where
    other : (j : ℕ) → (j ≡ at → ⊥) → coefficient (set old at v) j ≡ coefficient old j
    other j e = get_or-set_other old at j v 0 e

    here : (j : ℕ) → j < length old → at ≤ j → j < at + 1 → coefficient (set old at v) j ≡ coefficient (v ∷ []) (j - at)
    here j l b e =
        let this : j ≡ at = omega arith in
        let first : at - at ≡ 0 = omega arith in
        rw (this, first) (get_or-set_same old at v 0 h)

pub puts-join : {at : ℕ} {a b old : List ℕ} {r : ℕ} {mid : List ℕ} {s : ℕ} {after : List ℕ} → Puts at a old r mid → Puts r b mid s after → Puts at (a ++ b) old s after
puts-join {at} {a} {b} {old} {r} {mid} {s} {after} f g =
    record {
      next = omega (arith, f.next, g.next, both, same);
      bytes = pasted-is at (a ++ b) old after (puts-size g ∙ same) before inside beyond;
    }
  where
    same : length mid ≡ length old
    same = puts-size f

    both : length (a ++ b) ≡ length a + length b
    both = length-append a b

    before : (j : ℕ) → j < length old → j < at → coefficient after j ≡ coefficient old j
    before j l h = rw (g.bytes, pasted-before r b mid j (rw same l) (omega (arith, f.next)), f.bytes) (pasted-before at a old j l h)

    inside : (j : ℕ) → j < length old → at ≤ j → j < at + length (a ++ b) → coefficient after j ≡ coefficient (a ++ b) (j - at)
    inside j l h e = go (dec_lt j (at + length a))
      where
        go : Dec (j < at + length a) → coefficient after j ≡ coefficient (a ++ b) (j - at)
        go (yes i) =
            rw (g.bytes, pasted-before r b mid j (rw same l) (omega (arith, f.next)), f.bytes, get_or-append a b 0 (j - at) (omega arith)) (pasted-inside at a old j l h i)
        go (no i) =
            let place : j - at - length a ≡ j - r = omega (arith, f.next) in
            rw (g.bytes, coefficient-after a b (j - at) (omega arith), place) (pasted-inside r b mid j (rw same l) (omega (arith, f.next)) (omega (arith, f.next, both)))

    beyond : (j : ℕ) → j < length old → at + length (a ++ b) ≤ j → coefficient after j ≡ coefficient old j
    beyond j l h =
        rw (g.bytes, pasted-beyond r b mid j (rw same l) (omega (arith, f.next, both)), f.bytes) (pasted-beyond at a old j l (omega (arith, both)))

pub puts-spaced : {at : ℕ} (xs ys : List ℕ) {old : List ℕ} {r : ℕ} {mid : List ℕ} {s : ℕ} {after : List ℕ} → Puts at (spaced xs) old r mid → Puts r (spaced ys) mid s after
    → Puts at (spaced (xs ++ ys)) old s after
puts-spaced xs ys f g = rw spaced-join (puts-join f g)

pub put-fits : {text old : List ℕ} {r : ℕ} {after : List ℕ} → Puts 0 text old r after → length text ≤ length old
    → (r ≡ length text) × (after ≡ text ++ drop (length text) old)
put-fits {text} {old} {r} {after} h room =
    (omega (arith, h.next), lists_agree after (text ++ drop (length text) old) whole (λ j l. at j (rw (puts-size h) at l) (dec_lt j (length text))))
  where
    whole : length after ≡ length (text ++ drop (length text) old)
    whole = rw (puts-size h, length-append, length-drop) (omega arith)

    at : (j : ℕ) → j < length old → Dec (j < length text) → coefficient after j ≡ coefficient (text ++ drop (length text) old) j
    at j l (yes i) = rw (h.bytes, get_or-append text (drop (length text) old) 0 j i) (rw sub-zero at (pasted-inside 0 text old j l (omega arith) (omega arith)))
    at j l (no i) =
        let place : length text + (j - length text) ≡ j = omega arith in
        rw (h.bytes, coefficient-after text (drop (length text) old) j (omega arith), get_or-drop, place) (pasted-beyond 0 text old j l (omega arith))

-- ---- the turns of loops

module _ (xs : List ℕ) (i : ℕ) (h : i < length xs) where
  next_one : take (i + 1) xs ≡ take i xs ++ (coefficient xs i ∷ [])
  next_one = rw add-one (take-suc xs i 0 h)

  module _ {at : ℕ} {old now : List ℕ} (f : Puts at (take i xs) old (at + i) now) where
    pub put_byte : at + i < length old → Puts at (take (i + 1) xs) old (at + (i + 1)) (set now (at + i) (coefficient xs i))
    put_byte room =
        let next : at + (i + 1) ≡ at + i + 1 = omega arith in
        rw (next, next_one) (puts-join f (puts-byte (at + i) (coefficient xs i) now (rw (puts-size f) room)))

    pub put-cut : length old ≤ at + i → Puts at xs old (length old + 1) now
    put-cut none =
        let size : length now ≡ length old = puts-size f in
        rw (take-append-drop, size) at (puts-join f (puts-no-room (at + i) (drop i xs) now (omega arith) (rw length-drop (omega arith))))

  pub put_next : {at : ℕ} {old : List ℕ} {r : ℕ} {now : List ℕ} {s : ℕ} {after : List ℕ} → Puts at (spaced (take i xs)) old r now
      → Puts r (spaced (coefficient xs i ∷ [])) now s after → Puts at (spaced (take (i + 1) xs)) old s after
  put_next f g = rw next_one (puts-spaced (take i xs) (coefficient xs i ∷ []) f g)

-- ---- digits, from the last one on

pub word-digits : (n : ℕ) → n < 2 ^ 64 → digits n ≤ 20
word-digits n h = digits-most n 20 (omega arith) (lt_of_lt_of_le h (lit≤ tt))

pub record DigitsFrom (n i rest : ℕ) (bytes : List ℕ) : Type 0 where
  pub size : length bytes ≡ 20
  pub few : digits n ≤ 20
  pub most : i ≤ 20
  pub more : 20 < digits n + i
  pub left : rest ≡ n / 10 ^ (20 - i)
  pub stand : drop i bytes ≡ drop (digits n + i - 20) (decimal n)

pub digits-none : (n : ℕ) → n < 2 ^ 64 → DigitsFrom n 20 n (replicate 20 0)
digits-none n h =
    record {
      size = refl;
      few = word-digits n h;
      most = omega arith;
      more = omega (arith, digits-some n);
      left = rw (pow-zero, div-one);
      stand = sym (drop_of_length-le (decimal n) {i = digits n + 20 - 20} (omega (arith, length-decimal n)));
    }

module _ (n i rest : ℕ) (bytes : List ℕ) (h : DigitsFrom n i rest bytes) where
  abbrev stored : List ℕ
  stored = set bytes (i - 1) (48 + rest % 10)

  one_more : drop (i - 1) stored ≡ drop (digits n + (i - 1) - 20) (decimal n)
  one_more =
      let m : ℕ = digits n + (i - 1) - 20 in
      let byte : ℕ = 48 + rest % 10 in
      let up : suc (i - 1) ≡ i = omega arith in
      let above : suc m ≡ digits n + i - 20 = omega arith in
      let place : 20 - i ≡ digits n - 1 - m = omega arith in
      let digit : byte ≡ coefficient (decimal n) m = rw (h.left, place) (sym (decimal-at n m (omega arith))) in
      let stands : drop (i - 1) stored ≡ byte ∷ drop i bytes =
      rw (drop-cons stored (i - 1) 0 (rw (length-set, h.size) (omega arith)), get_or-set_same bytes (i - 1) byte 0 (omega arith), drop-set-lt (suc (i - 1)) bytes (i - 1) byte (omega arith), up) in
      stands ∙ rw (drop-cons (decimal n) m 0 (rw length-decimal (omega arith)), above, h.stand, digit)

  left-more : rest / 10 ≡ n / 10 ^ (20 - (i - 1))
  left-more =
      let next : 20 - i + 1 ≡ 20 - (i - 1) = omega arith in
      ap (λ (r : ℕ). r / 10) h.left ∙ field_next 10 n (20 - i) ∙ rw next

  pub digits-turn : (rest / 10 ≡ 0 → ⊥) → DigitsFrom n (i - 1) (rest / 10) stored
  digits-turn some =
      record {
        size = length-set bytes (i - 1) (48 + rest % 10) ∙ h.size;
        few = h.few;
        most = omega arith;
        more = omega (arith, digits_more n (20 - (i - 1)) (rw left-more at (pos_of_ne-zero some)));
        left = left-more;
        stand = one_more;
      }

  -- as the code cuts them
  pub digits-all : rest / 10 ≡ 0 → take (20 - (i - 1)) (drop (i - 1) stored) ≡ decimal n
  digits-all e =
      let all : digits n ≡ 20 - (i - 1) = digits-is n (20 - (i - 1)) (omega arith) (omega arith) (sym left-more ∙ e) in
      let none : digits n + (i - 1) - 20 ≡ 0 = omega arith in
      let whole : drop (i - 1) stored ≡ decimal n = rw none at one_more in
      rw whole (take_all (20 - (i - 1)) (decimal n) (rw length-decimal (omega arith)))
