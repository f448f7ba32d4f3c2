-- Whole numbers in decimal, as text. Assumes nothing.
--     digits n             how many decimal digits n takes: the fewest that hold it, and one for 0
--     decimal n            these digits in ASCII, the highest first: no leading zeros, and 0 is `0`
--     is_digit c            a byte from `0` to `9`
--     reading, numbers_in cs
--                          the numbers that stand in a text: each run of digits, read in decimal
--     digits-some          there is a digit
--     digits-most, digits-enough
--                          n is below 10^w, for w from 1 on, exactly where it takes at most w digits
--     digits_more, digits-is
--                          counting them: some are left above the lowest w, so there are more than w; none is, so there are at most w
--     length-decimal       as many bytes as digits
--     decimal-at           the byte at place j is the digit of the place that stands there
--     decimal-zero         0 is `0`
--     no-leading-zero      no other number starts with `0`
--     decimal-byte         all bytes are digits
--     reading-decimal, reading-last
--                          a number before a byte that is no digit, or at the end of a text, is read as that number
use Rattle.std.specs.Prelude.{ℕ, zero, suc, ◌+◌, ◌-◌, ◌*◌, ◌/◌, ◌%◌, ◌^◌, ◌≤◌, ◌<◌, ◌≡◌, refl, Bool, true, false, List, [], ◌∷◌, ◌++◌, reverse, ltb, length}
use Rattle.std.proofs.Common.{sym, ◌∙◌, true≢false, append-nil, zero-add, le-div_iff_mul-le, div-lt_iff_lt-mul, mod-lt, mod-eq_of_lt, arith, ltb-true, lt-ltb, le-ltb}
use Rattle.std.proofs.lemmas.List.{reverse-append, length-reverse}
use Rattle.std.proofs.Math.Nat.{sub-zero, pow-zero, pow-succ', pow-le-pow_right, one-le-pow, mod-one}
use Rattle.std.proofs.Math.Decide.{dec_lt}
use Rattle.std.proofs.Math.Arith.{mod-mul}
use Rattle.polynomials.specs.Indices.{pick, upto, first, First}
use Rattle.polynomials.specs.IndexLaws.{length-upto, first-is}
use Rattle.polynomials.specs.Lists.{coefficient}
use Rattle.polynomials.specs.Places.{field}

unfoldable pub digits : ℕ → ℕ
digits n = suc (first (λ w. ltb n (10 ^ suc w)) n 0)

unfoldable pub decimal : ℕ → List ℕ
decimal n = reverse (upto (digits n) (λ i. 48 + field 10 n i))

abbrev pub is_digit : ℕ → Bool
is_digit c = pick (ltb c 48) false (ltb c 58)

-- in a run of digits that come to v, and between runs
abbrev pub reading : Bool → ℕ → List ℕ → List ℕ
reading true v [] = v ∷ []
reading false v [] = []
reading true v (c ∷ cs) = pick (is_digit c) (reading true (v * 10 + (c - 48)) cs) (v ∷ reading false 0 cs)
reading false v (c ∷ cs) = pick (is_digit c) (reading true (c - 48) cs) (reading false 0 cs)

abbrev pub numbers_in : List ℕ → List ℕ
numbers_in cs = reading false 0 cs

-- ---- how many digits

n-below : (n : ℕ) → n < 10 ^ suc n
n-below zero = rw pow-succ' (omega arith)
n-below (suc n) = rw pow-succ' (omega (arith, n-below n))

-- suc w digits are enough; and the first such w, the digits besides one
abbrev holds : ℕ → ℕ → Bool
holds n w = ltb n (10 ^ suc w)

abbrev extra : ℕ → ℕ
extra n = first (holds n) n 0

found : (n : ℕ) → First (holds n) n 0 (extra n)
found n = first-is (holds n) n 0

pub digits-some : (n : ℕ) → 0 < digits n
unfolding digits
digits-some n = omega arith

pub digits-enough : (n : ℕ) → n < 10 ^ digits n
unfolding digits
digits-enough n = go (dec_lt (extra n) n)
  where
    go : Dec (extra n < n) → n < 10 ^ suc (extra n)
    go (yes l) = ltb-true n (10 ^ suc (extra n)) ((found n).holds (omega arith))
    go (no l) =
        let all : extra n ≡ n = omega (arith, (found n).high) in
        rw all (n-below n)

pub digits-most : (n w : ℕ) → 0 < w → n < 10 ^ w → digits n ≤ w
unfolding digits
digits-most n w h l = go (dec_lt (w - 1) (extra n))
  where
    up : suc (w - 1) ≡ w
    up = omega arith

    go : Dec (w - 1 < extra n) → suc (extra n) ≤ w
    go (yes b) = absurd (true≢false (sym (lt-ltb n (10 ^ suc (w - 1)) (rw up l)) ∙ (found n).none_before (w - 1) (omega arith) b))
    go (no b) = omega arith

-- ---- a loop that counts them

pub digits_more : (n w : ℕ) → 0 < n / 10 ^ w → w < digits n
digits_more n w h = go (dec_lt w (digits n))
  where
    some : 10 ^ w ≤ n
    some = omega (arith, (le-div_iff_mul-le {x = 1} {y = n} (one-le-pow w 10 (omega arith))).0 h)

    go : Dec (w < digits n) → w < digits n
    go (yes l) = l
    go (no l) = absurd (omega (arith, some, digits-enough n, pow-le-pow_right {n = 10} (omega arith) {i = digits n} {j = w} (omega arith)))

pub digits-is : (n w : ℕ) → 0 < w → w ≤ digits n → n / 10 ^ w ≡ 0 → digits n ≡ w
digits-is n w h most e =
    let small : n < 10 ^ w = omega (arith, (div-lt_iff_lt-mul {x = n} {y = 1} (one-le-pow w 10 (omega arith))).0 (omega arith)) in
    omega (arith, digits-most n w h small)

-- ---- the bytes

pub length-decimal : (n : ℕ) → length (decimal n) ≡ digits n
unfolding decimal
length-decimal n = length-reverse (upto (digits n) (λ i. 48 + field 10 n i)) ∙ length-upto (digits n) (λ i. 48 + field 10 n i)

from_last : (f : ℕ → ℕ) (m : ℕ) → reverse (upto (suc m) f) ≡ f m ∷ reverse (upto m f)
from_last f m = reverse-append (upto m f) (f m ∷ [])

from-last-at : (f : ℕ → ℕ) (m j : ℕ) → j < m → coefficient (reverse (upto m f)) j ≡ f (m - 1 - j)
from-last-at f zero j h = absurd (omega arith)
from-last-at f (suc m) zero h =
    let last : suc m - 1 - 0 ≡ m = omega arith in
    rw (from_last f m, last)
from-last-at f (suc m) (suc j) h =
    let place : suc m - 1 - suc j ≡ m - 1 - j = omega arith in
    rw (from_last f m, place) (from-last-at f m j (omega arith))

pub decimal-at : (n j : ℕ) → j < digits n → coefficient (decimal n) j ≡ 48 + field 10 n (digits n - 1 - j)
unfolding decimal
decimal-at n j h = from-last-at (λ i. 48 + field 10 n i) (digits n) j h

pub decimal-zero : decimal 0 ≡ 48 ∷ []
unfolding decimal digits first
decimal-zero = refl

-- a zero at the highest place: one place less is enough
zero-top : (n w : ℕ) → n < 10 ^ suc w → field 10 n w ≡ 0 → n < 10 ^ w
zero-top n w h e =
    let some : 0 < 10 ^ w = one-le-pow w 10 (omega arith) in
    let one : n / 10 ^ w < 10 = (div-lt_iff_lt-mul {x = n} {y = 10} some).1 (rw (← pow-succ') h) in
    let none : n / 10 ^ w ≡ 0 = sym (mod-eq_of_lt one) ∙ e in
    omega (arith, (div-lt_iff_lt-mul {x = n} {y = 1} some).0 (omega arith))

pub no-leading-zero : (n : ℕ) → 0 < n → coefficient (decimal n) 0 ≡ 48 → ⊥
no-leading-zero n h e = fewer (digits n - 1) up (zero-top n (digits n - 1) (rw up (digits-enough n)) (rw sub-zero at top))
  where
    up : suc (digits n - 1) ≡ digits n
    up = omega (arith, digits-some n)

    top : field 10 n (digits n - 1 - 0) ≡ 0
    top = omega (arith, decimal-at n 0 (digits-some n))

    fewer : (w : ℕ) → suc w ≡ digits n → n < 10 ^ w → ⊥
    fewer zero up small = omega arith
    fewer (suc w) up small = omega (arith, digits-most n (suc w) (omega arith) small)

place_byte : (n i : ℕ) → is_digit (48 + field 10 n i) ≡ true
place_byte n i =
    let small : field 10 n i < 10 = mod-lt (n / 10 ^ i) (omega arith) in
    rw (le-ltb (48 + field 10 n i) 48 (omega arith), lt-ltb (48 + field 10 n i) 58 (omega arith))

pub decimal-byte : (n j : ℕ) → j < digits n → is_digit (coefficient (decimal n) j) ≡ true
decimal-byte n j h = rw (decimal-at n j h) (place_byte n (digits n - 1 - j))

-- ---- reading them

-- the m lowest digits of n
abbrev lowest : ℕ → ℕ → List ℕ
lowest n m = reverse (upto m (λ i. 48 + field 10 n i))

-- in a run that came to v
read-lowest : (n m v : ℕ) (rest : List ℕ) → reading true v (lowest n m ++ rest) ≡ reading true (v * 10 ^ m + n % 10 ^ m) rest
read-lowest n zero v rest =
    let all : v * 10 ^ 0 + n % 10 ^ 0 ≡ v = rw (pow-zero, mod-one) (omega arith) in
    rw all
read-lowest n (suc m) v rest =
    let digit : 48 + field 10 n m - 48 ≡ field 10 n m = omega arith in
    let low : n % 10 ^ suc m ≡ field 10 n m * 10 ^ m + n % 10 ^ m = rw pow-succ' (mod-mul n {m = 10} {c = 10 ^ m} (omega arith) (one-le-pow m 10 (omega arith))) in
    let sum : (v * 10 + field 10 n m) * 10 ^ m + n % 10 ^ m ≡ v * 10 ^ suc m + n % 10 ^ suc m = rw (low, pow-succ') (omega arith) in
    rw (from_last (λ i. 48 + field 10 n i) m, place_byte n m, digit, read-lowest n m (v * 10 + field 10 n m) rest, sum)

-- between runs, the first digit starts one
read_first : (n m : ℕ) (rest : List ℕ) → reading false 0 (lowest n (suc m) ++ rest) ≡ reading true 0 (lowest n (suc m) ++ rest)
read_first n m rest = rw (from_last (λ i. 48 + field 10 n i) m, place_byte n m, zero-add)

reading-run : (n : ℕ) (rest : List ℕ) → numbers_in (decimal n ++ rest) ≡ reading true n rest
unfolding decimal
reading-run n rest =
    let up : digits n ≡ suc (digits n - 1) = omega (arith, digits-some n) in
    let all : 0 * 10 ^ digits n + n % 10 ^ digits n ≡ n = rw (mod-eq_of_lt (digits-enough n)) (omega arith) in
    (rw up (read_first n (digits n - 1) rest)) ∙ read-lowest n (digits n) 0 rest ∙ rw all

pub reading-decimal : (n c : ℕ) (rest : List ℕ) → is_digit c ≡ false → numbers_in (decimal n ++ (c ∷ rest)) ≡ n ∷ numbers_in rest
reading-decimal n c rest h = reading-run n (c ∷ rest) ∙ rw h

pub reading-last : (n : ℕ) → numbers_in (decimal n) ≡ n ∷ []
reading-last n = rw append-nil at (reading-run n [])
