-- Laws of places in a base q, any base. Assumes nothing; bounds are asked of the fields and of the number.
--     packed-agree                 lists whose coefficients agree pack to one number
--     packed-zeros                 as a list and the same list with zeros at its high end
--     packed-sum, packed-scaled, packed-product, packed-sum_of_products
--                                  the packed number of a sum, .. is the sum, .. of the packed numbers
--     packed-most                  smaller coefficients pack to a smaller number
--     packed-snoc                  the highest place apart
--     packed-four                  four places more
--     packed-next, packed-fewer    packing from the lowest place up: the turn from place i to the one above; fewer places give no more
--     packed-turn, packed-part     packing from the highest place down: the turn from place i to the one below; a part is at most the whole
--     field-packed, fields-packed  the fields of a packed list give it back
--     fields-zeros                 and zeros in the places after it
--     packed-fields                packing the fields of a number gives it back
--     packed-fields-most           packing some of them gives no more
--     field_next                   a place up: what stands from there on
--     one_power, packed-one        in the base 1 places do not count: no coefficient is above the sum of all of them
--     packed-one-most              which is at most p for each, if they are below p
--     packed-same                  lists that pack to one number in every base have the same coefficients
--     packed-below                 fields below q: a number below q^m, for m of them
--     packed-top                   lower fields below q and the top one at most c: a number below (c + 1) q^m
--     top-place                    a number reaches q^(m+1) exactly where what stands from place m on reaches q
--     power-power                  place i of the base b^t starts at b^(i t)
use Rattle.std.specs.Prelude.{ℕ, zero, suc, ◌+◌, ◌-◌, ◌*◌, ◌/◌, ◌%◌, ◌^◌, ◌≤◌, ◌<◌, ◌≡◌, refl, List, [], ◌∷◌, ◌++◌, ◌↔◌, length, drop, replicate}
use Rattle.std.proofs.Common.{zero-le, sym, ◌∙◌, append-nil, zero-add, add-zero, zero-mul, mul-zero, mul-one, mul_comm, mul-le-mul_left, le-mul_of_pos_right, le_antisymm, mul-pos, suc-mul, pow-suc, div-one, mod-eq_of_lt, le-div_iff_mul-le, add-one, arith, length-append, pow-add, drop-cons}
use Rattle.std.proofs.Math.Nat.{pow-zero, pow-succ', zero-mod, mod-le, zero-div, mod-one, div-eq_of_lt, add-mul-div_left, add-mul-mod_self_left, div-div-eq-div-mul, one-le-pow}
use Rattle.std.proofs.Math.Decide.{dec_lt}
use Rattle.std.proofs.Math.Arith.{mod-mul}
use Rattle.std.proofs.lemmas.List.{length-replicate}
use Rattle.polynomials.specs.Indices.{upto}
use Rattle.polynomials.specs.Lists.{coefficient, sum, scaled, product, Below, Pair, sum_of_products}
use Rattle.polynomials.specs.Places.{packed, field, fields, sum_of_words}
use Rattle.polynomials.specs.IndexLaws.{length-upto, upto-at, upto-past}
use Rattle.polynomials.specs.ListLaws.{lists_agree, coefficient-zeros, product-row}

pub packed-agree : (q : ℕ) (xs ys : List ℕ) → ((j : ℕ) → coefficient xs j ≡ coefficient ys j) → packed q xs ≡ packed q ys
packed-agree q [] [] h = refl
packed-agree q [] (y ∷ ys) h = rw (← h 0, ← packed-agree q [] ys (λ j. h (suc j)), mul-zero)
packed-agree q (x ∷ xs) [] h = rw (h 0, packed-agree q xs [] (λ j. h (suc j)), mul-zero)
packed-agree q (x ∷ xs) (y ∷ ys) h = rw (h 0, packed-agree q xs ys (λ j. h (suc j)))

pub packed-zeros : (q : ℕ) (xs : List ℕ) (z : ℕ) → packed q (xs ++ replicate z 0) ≡ packed q xs
packed-zeros q xs z = packed-agree q (xs ++ replicate z 0) xs (coefficient-zeros xs z)

pub packed-most : (q : ℕ) (xs ys : List ℕ) → ((j : ℕ) → coefficient xs j ≤ coefficient ys j) → packed q xs ≤ packed q ys
packed-most q [] ys h = zero-le
packed-most q (x ∷ xs) [] h =
    let none : packed q (x ∷ xs) ≡ 0 = packed-agree q (x ∷ xs) [] (λ j. le_antisymm (h j) zero-le) in
    omega arith
packed-most q (x ∷ xs) (y ∷ ys) h = omega (arith, h 0, mul-le-mul_left q (packed-most q xs ys (λ j. h (suc j))))

pub packed-sum : (q : ℕ) (xs ys : List ℕ) → packed q (sum xs ys) ≡ packed q xs + packed q ys
packed-sum q [] ys = sym (zero-add (packed q ys))
packed-sum q (x ∷ xs) [] = omega arith
packed-sum q (x ∷ xs) (y ∷ ys) = rw (packed-sum q xs ys) (omega arith)

pub packed-scaled : (q c : ℕ) (xs : List ℕ) → packed q (scaled c xs) ≡ c * packed q xs
packed-scaled q c [] = sym (mul-zero c)
packed-scaled q c (x ∷ xs) = rw (packed-scaled q c xs) (omega arith)

pub packed-product : (q : ℕ) (xs ys : List ℕ) → packed q (product xs ys) ≡ packed q xs * packed q ys
packed-product q [] ys = sym (zero-mul (packed q ys))
packed-product q (x ∷ xs) ys =
    packed-agree q (product (x ∷ xs) ys) (sum (scaled x ys) (0 ∷ product xs ys)) (product-row x xs ys)
    ∙ packed-sum q (scaled x ys) (0 ∷ product xs ys)
    ∙ rw (packed-scaled q x ys, packed-product q xs ys) (omega arith)

pub packed-sum_of_products : (q : ℕ) (cs : List Pair) → packed q (sum_of_products cs) ≡ sum_of_words q cs
packed-sum_of_products q [] = refl
packed-sum_of_products q (c ∷ cs) =
    packed-sum q (product c.left c.right) (sum_of_products cs) ∙ rw (packed-product q c.left c.right, packed-sum_of_products q cs)

pub packed-snoc : (q : ℕ) (xs : List ℕ) (x : ℕ) → packed q (xs ++ (x ∷ [])) ≡ packed q xs + x * q ^ length xs
packed-snoc q [] x = rw (pow-zero, mul-zero, mul-one) (omega arith)
packed-snoc q (y ∷ xs) x = rw (packed-snoc q xs x, pow-succ') (omega arith)

pub packed-next : (q : ℕ) (f : ℕ → ℕ) (i : ℕ) → packed q (upto (i + 1) f) ≡ packed q (upto i f) + f i * q ^ i
packed-next q f i = rw add-one (packed-snoc q (upto i f) (f i) ∙ rw length-upto)

-- four places more
pub packed-four : (q : ℕ) (f : ℕ → ℕ) (i : ℕ)
    → packed q (upto (i + 4) f) ≡ packed q (upto i f) + (f i * q ^ i + f (i + 1) * q ^ (i + 1) + f (i + 2) * q ^ (i + 2) + f (i + 3) * q ^ (i + 3))
packed-four q f i =
    let one = packed-next q f i in
    let two : packed q (upto (i + 2) f) ≡ packed q (upto (i + 1) f) + f (i + 1) * q ^ (i + 1) = rw (next 1) at (packed-next q f (i + 1)) in
    let three : packed q (upto (i + 3) f) ≡ packed q (upto (i + 2) f) + f (i + 2) * q ^ (i + 2) = rw (next 2) at (packed-next q f (i + 2)) in
    let four : packed q (upto (i + 4) f) ≡ packed q (upto (i + 3) f) + f (i + 3) * q ^ (i + 3) = rw (next 3) at (packed-next q f (i + 3)) in
    omega arith
  where
    next : (n : ℕ) → i + n + 1 ≡ i + (n + 1)
    next n = omega arith

pub packed-fewer : (q : ℕ) (f : ℕ → ℕ) (i m : ℕ) → i ≤ m → packed q (upto i f) ≤ packed q (upto m f)
packed-fewer q f i m h = packed-most q (upto i f) (upto m f) (λ j. at j (dec_lt j i))
  where
    at : (j : ℕ) → Dec (j < i) → coefficient (upto i f) j ≤ coefficient (upto m f) j
    at j (yes l) = rw (upto-at i f j l, upto-at m f j (omega arith)) (omega arith)
    at j (no l) = rw (upto-past i f j (omega arith)) zero-le

pub packed-part : (q : ℕ) → 0 < q → (xs : List ℕ) (i : ℕ) → packed q (drop i xs) ≤ packed q xs
packed-part q hq xs zero = omega arith
packed-part q hq [] (suc i) = omega arith
packed-part q hq (x ∷ xs) (suc i) = omega (arith, packed-part q hq xs i, le-mul_of_pos_right (packed q xs) hq)

pub packed-turn : (q : ℕ) (xs : List ℕ) (i w : ℕ) → 0 < i → i ≤ length xs → w ≡ packed q (drop i xs) → w * q + coefficient xs (i - 1) ≡ packed q (drop (i - 1) xs)
packed-turn q xs i w h l e =
    let above : suc (i - 1) ≡ i = omega arith in
    let rest : packed q (drop (suc (i - 1)) xs) ≡ w = rw (above, e) in
    rw (drop-cons xs (i - 1) 0 (omega arith), rest) (omega arith)

-- ---- fields

pub field-packed : (q : ℕ) (xs : List ℕ) → Below q xs → (i : ℕ) → field q (packed q xs) i ≡ coefficient xs i
field-packed q [] h i = rw (zero-div, zero-mod)
field-packed q (x ∷ xs) h zero = rw (pow-zero, div-one, add-mul-mod_self_left x q (packed q xs), mod-eq_of_lt (h 0))
field-packed q (x ∷ xs) h (suc i) =
    let hx : x < q = h 0 in
    let up : (x + q * packed q xs) / q ≡ packed q xs = add-mul-div_left x (packed q xs) (omega arith) ∙ rw (div-eq_of_lt hx) (zero-add (packed q xs)) in
    rw (pow-succ', ← div-div-eq-div-mul, up) (field-packed q xs (λ j. h (suc j)) i)

pub fields-zeros : (q : ℕ) (xs : List ℕ) (z : ℕ) → Below q xs → fields q (length xs + z) (packed q xs) ≡ xs ++ replicate z 0
fields-zeros q xs z h =
    lists_agree (fields q (length xs + z) (packed q xs)) (xs ++ replicate z 0) (simp (length-upto, length-append, length-replicate))
    (λ j l. upto-at (length xs + z) (field q (packed q xs)) j (rw length-upto at l) ∙ field-packed q xs h j ∙ sym (coefficient-zeros xs z j))

pub fields-packed : (q : ℕ) (xs : List ℕ) → Below q xs → fields q (length xs) (packed q xs) ≡ xs
fields-packed q xs h = rw (add-zero, append-nil) at (fields-zeros q xs 0 h)

packed-fields-mod : (q : ℕ) → 0 < q → (m r : ℕ) → packed q (fields q m r) ≡ r % q ^ m
packed-fields-mod q hq zero r = rw (pow-zero, mod-one)
packed-fields-mod q hq (suc m) r =
    packed-snoc q (upto m (field q r)) (field q r m)
    ∙ rw (length-upto, packed-fields-mod q hq m r, pow-succ', mod-mul r hq (one-le-pow m q hq)) (omega arith)

pub packed-fields : (q : ℕ) → 0 < q → (m r : ℕ) → r < q ^ m → packed q (fields q m r) ≡ r
packed-fields q hq m r h = packed-fields-mod q hq m r ∙ mod-eq_of_lt h

pub packed-fields-most : (q : ℕ) → 0 < q → (m r : ℕ) → packed q (fields q m r) ≤ r
packed-fields-most q hq m r = rw (packed-fields-mod q hq m r) (mod-le r (q ^ m))

pub field_next : (q r i : ℕ) → r / q ^ i / q ≡ r / q ^ (i + 1)
field_next q r i = rw (add-one, pow-suc, div-div-eq-div-mul)

-- ---- every base

pub packed-one : (xs : List ℕ) (j : ℕ) → coefficient xs j ≤ packed 1 xs
packed-one [] j = omega arith
packed-one (x ∷ xs) zero = omega arith
packed-one (x ∷ xs) (suc j) = omega (arith, packed-one xs j)

pub one_power : (n : ℕ) → 1 ^ n ≡ 1
one_power zero = pow-zero 1
one_power (suc n) = rw pow-succ' (omega (arith, one_power n))

pub packed-one-most : (p : ℕ) (xs : List ℕ) → Below p xs → packed 1 xs ≤ length xs * p
packed-one-most p [] h = zero-le
packed-one-most p (x ∷ xs) h = rw (suc-mul (length xs)) (omega (arith, h 0, packed-one-most p xs (λ j. h (suc j))))

pub packed-same : (xs ys : List ℕ) → ((q : ℕ) → packed q xs ≡ packed q ys) → (j : ℕ) → coefficient xs j ≡ coefficient ys j
packed-same xs ys h j =
    let q : ℕ = suc (packed 1 xs) in
    let same : packed 1 ys ≡ packed 1 xs = sym (h 1) in
    sym (field-packed q xs (λ i. omega (arith, packed-one xs i)) j) ∙ rw (h q) (field-packed q ys (λ i. omega (arith, packed-one ys i)) j)

-- ---- bounds

pub packed-below : (q : ℕ) (xs : List ℕ) → Below q xs → packed q xs < q ^ length xs
packed-below q [] h = rw pow-zero (omega arith)
packed-below q (x ∷ xs) h = rw pow-succ' (omega (arith, mul-le-mul_left q (packed-below q xs (λ j. h (suc j))), h 0))

pub packed-top : (q c m : ℕ) (xs : List ℕ) → ((j : ℕ) → j < m → coefficient xs j < q) → coefficient xs m ≤ c → ((j : ℕ) → m < j → coefficient xs j ≡ 0)
    → packed q xs < (c + 1) * q ^ m
packed-top q c zero [] low top past = rw (pow-zero, mul-one) (omega arith)
packed-top q c zero (x ∷ xs) low top past =
    let none : packed q xs ≡ 0 = packed-agree q xs [] (λ j. past (suc j) (omega arith)) in
    rw (pow-zero, mul-one, none, mul-zero) (omega arith)
packed-top q c (suc m) [] low top past = mul-pos (omega arith) (one-le-pow (suc m) q (low 0 (omega arith)))
packed-top q c (suc m) (x ∷ xs) low top past =
    let rest : packed q xs < (c + 1) * q ^ m = packed-top q c m xs (λ j h. low (suc j) (omega arith)) top (λ j h. past (suc j) (omega arith)) in
    rw pow-succ' (omega (arith, mul-le-mul_left q rest, low 0 (omega arith)))

pub top-place : (q m r : ℕ) → 0 < q → (q ^ suc m ≤ r) ↔ (q ≤ r / q ^ m)
top-place q m r hq =
    let reach = le-div_iff_mul-le {x = q} {y = r} (one-le-pow m q hq) in
    (λ h. reach.1 (rw pow-succ' at h), λ h. rw pow-succ' (reach.0 h))

pub power-power : (b t i : ℕ) → (b ^ t) ^ i ≡ b ^ (i * t)
power-power b t zero = rw (pow-zero, zero-mul, pow-zero)
power-power b t (suc i) = rw (pow-succ', suc-mul, pow-add, power-power b t i) (mul_comm (b ^ t) (b ^ (i * t)))
