-- Whole numbers in bytes, the highest byte first. Assumes nothing.
--     big_endian w n        n in w bytes, big-endian: its w lowest places in the base 256, the highest first
--     read_number bs        the number that bytes stand for
--     number_at bs i w      the number in the w bytes from place i on, where it is looked up in a longer list; past the end there are zeros
--     number_at-same        it is the same number where the same bytes stand
--     number-at            it is the number that these bytes stand for
--     number_at-big_endian   a number that was written in w bytes, among others, is read back
--     length-big_endian     w bytes
--     number-big_endian     reading gives the number back, where w bytes have room for it
--     big_endian-only       so no other number that has room stands in the same bytes
use Rattle.std.specs.Prelude.{ℕ, zero, suc, ◌+◌, ◌-◌, ◌*◌, ◌^◌, ◌<◌, ◌≡◌, refl, List, [], ◌∷◌, ◌++◌, reverse, length}
use Rattle.std.proofs.Common.{sym, ap, ◌∙◌, zero-add, arith}
use Rattle.std.proofs.lemmas.List.{reverse-append, reverse-reverse, length-reverse}
use Rattle.std.proofs.Math.ListN.{get_or-append}
use Rattle.polynomials.specs.Lists.{coefficient}
use Rattle.polynomials.specs.Places.{packed, field, fields}
use Rattle.polynomials.specs.Indices.{upto}
use Rattle.polynomials.specs.IndexLaws.{length-upto, upto-same}
use Rattle.polynomials.specs.ListLaws.{coefficients, coefficient-after}
use Rattle.polynomials.specs.PlaceLaws.{packed-fields}

abbrev pub big_endian : ℕ → ℕ → List ℕ
big_endian w n = reverse (fields 256 w n)

abbrev pub read_number : List ℕ → ℕ
read_number bs = packed 256 (reverse bs)

abbrev pub number_at : List ℕ → ℕ → ℕ → ℕ
number_at bs i zero = 0
number_at bs i (suc w) = number_at bs i w * 256 + coefficient bs (i + w)

pub number_at-same : (xs bs : List ℕ) (i j w : ℕ) → ((r : ℕ) → r < w → coefficient xs (i + r) ≡ coefficient bs (j + r)) → number_at xs i w ≡ number_at bs j w
number_at-same xs bs i j zero h = refl
number_at-same xs bs i j (suc w) h = rw (number_at-same xs bs i j w (λ r l. h r (omega arith)), h w (omega arith))

pub length-big_endian : (w n : ℕ) → length (big_endian w n) ≡ w
length-big_endian w n = length-reverse (fields 256 w n) ∙ length-upto w (field 256 n)

pub number-big_endian : (w n : ℕ) → n < 256 ^ w → read_number (big_endian w n) ≡ n
number-big_endian w n h = ap (packed 256) (reverse-reverse (fields 256 w n)) ∙ packed-fields 256 (omega arith) w n h

pub number-at : (bs : List ℕ) (i w : ℕ) → number_at bs i w ≡ read_number (upto w (λ r. coefficient bs (i + r)))
number-at bs i zero = refl
number-at bs i (suc w) =
    rw (number-at bs i w, reverse-append (upto w (λ r. coefficient bs (i + r))) (coefficient bs (i + w) ∷ [])) (omega arith)

pub number_at-big_endian : (xs ys : List ℕ) (w n : ℕ) → n < 256 ^ w → number_at (xs ++ (big_endian w n ++ ys)) (length xs) w ≡ n
number_at-big_endian xs ys w n h =
    let bs : List ℕ = big_endian w n in
    let size : length bs ≡ w = length-big_endian w n in
    let read : number_at bs 0 w ≡ n = number-at bs 0 w ∙ ap read_number (upto-same w (λ r. coefficient bs (0 + r)) (coefficient bs) (λ r l. ap (coefficient bs) (zero-add r)) ∙ (rw size at (coefficients bs))) ∙ number-big_endian w n h in
    number_at-same (xs ++ (bs ++ ys)) bs (length xs) 0 w (λ r l. at r (rw size l)) ∙ read
  where
    at : (r : ℕ) → r < length (big_endian w n) → coefficient (xs ++ (big_endian w n ++ ys)) (length xs + r) ≡ coefficient (big_endian w n) (0 + r)
    at r l =
        let here : length xs + r - length xs ≡ r = omega arith in
        coefficient-after xs (big_endian w n ++ ys) (length xs + r) (omega arith) ∙ rw (here, zero-add r) (get_or-append (big_endian w n) ys 0 r l)

pub big_endian-only : (w m n : ℕ) → m < 256 ^ w → n < 256 ^ w → big_endian w m ≡ big_endian w n → m ≡ n
big_endian-only w m n hm hn e = sym (number-big_endian w m hm) ∙ ap read_number e ∙ number-big_endian w n hn
