-- Laws of lists as polynomials. Assumes nothing.
--     lists_agree                          two lists are equal if they have one length and all coefficients agree
--     coefficients                         a list is that of its coefficients
--     coefficient-past                     zero past the end
--     coefficient-after                    past a first list, that of the second
--     coefficient-zeros                    zeros at the high end change no coefficient
--     length_part, coefficient-part, part_below
--                                          a part: its length, what stands in it, and that a bound stays
--     below-join, below_parts              joined lists are below c exactly where both are
--     filled_at, filled-after, length-filled
--                                          a filled list: what was written, what was there, and its length
--     length-LIST, coefficient-LIST        of a sum, a scaled list, a product, residues, each under that name
--     product-row                          the first factor's lowest coefficient apart
use Rattle.std.specs.Prelude.{ℕ, zero, suc, ◌+◌, ◌-◌, ◌*◌, ◌%◌, ◌≤◌, ◌<◌, max, ◌≡◌, refl, List, [], ◌∷◌, ◌++◌, length, replicate, drop}
use Rattle.std.proofs.Common.{sym, ap, ◌∙◌, zero-add, add-zero, zero-mul, mul-zero, arith, length-append, length-take, length-drop, ext_get_or, get_or-append-add, get_or-take, get_or-drop}
use Rattle.std.proofs.Math.Nat.{zero-mod, sub-zero, suc-sub-suc}
use Rattle.std.proofs.Math.Decide.{dec_lt}
use Rattle.std.proofs.Math.ListN.{get_or-append, get_or-eq_default}
use Rattle.polynomials.specs.Indices.{upto, filled}
use Rattle.polynomials.specs.Lists.{coefficient, part, sum, scaled, product_length, product_at, product, residues, Below}
use Rattle.polynomials.specs.IndexLaws.{length-upto, upto-at, upto-past, sum-zero, sum-front, sum_same}

pub lists_agree : (xs ys : List ℕ) → length xs ≡ length ys → ((j : ℕ) → j < length xs → coefficient xs j ≡ coefficient ys j) → xs ≡ ys
lists_agree xs ys e h = ext_get_or 0 xs ys e h

pub coefficients : (xs : List ℕ) → upto (length xs) (coefficient xs) ≡ xs
coefficients xs =
    lists_agree (upto (length xs) (coefficient xs)) xs (length-upto (length xs) (coefficient xs))
    (λ j l. upto-at (length xs) (coefficient xs) j (rw length-upto at l))

pub coefficient-past : (xs : List ℕ) (j : ℕ) → length xs ≤ j → coefficient xs j ≡ 0
coefficient-past xs j h = get_or-eq_default xs 0 h

pub coefficient-after : (xs ys : List ℕ) (j : ℕ) → length xs ≤ j → coefficient (xs ++ ys) j ≡ coefficient ys (j - length xs)
coefficient-after xs ys j h =
    let split : length xs + (j - length xs) ≡ j = omega arith in
    rw split at (get_or-append-add xs ys (j - length xs) 0)

-- a part: its length, what stands in it, and that a bound stays
pub length_part : (i end : ℕ) (xs : List ℕ) → end ≤ length xs → length (part i end xs) ≡ end - i
length_part i end xs h = simp (length-take, length-drop) (omega arith)

pub coefficient-part : (i end : ℕ) (xs : List ℕ) (r : ℕ) → r < end - i → coefficient (part i end xs) r ≡ coefficient xs (i + r)
coefficient-part i end xs r h = get_or-take (end - i) (drop i xs) r 0 h ∙ get_or-drop i xs r 0

pub part_below : (c i end : ℕ) (xs : List ℕ) → 0 < c → Below c xs → Below c (part i end xs)
part_below c i end xs hc h r = go (dec_lt r (end - i))
  where
    go : Dec (r < end - i) → coefficient (part i end xs) r < c
    go (yes l) = rw (coefficient-part i end xs r l) (h (i + r))
    go (no l) = rw (coefficient-past (part i end xs) r (simp length-take (omega arith))) hc

pub below-join : (c : ℕ) (xs ys : List ℕ) → Below c xs → Below c ys → Below c (xs ++ ys)
below-join c xs ys hx hy j = go (dec_lt j (length xs))
  where
    go : Dec (j < length xs) → coefficient (xs ++ ys) j < c
    go (yes l) = rw (get_or-append xs ys 0 j l) (hx j)
    go (no l) = rw (coefficient-after xs ys j (omega arith)) (hy (j - length xs))

pub below_parts : (c : ℕ) (xs ys : List ℕ) → Below c (xs ++ ys) → Below c xs × Below c ys
below_parts c xs ys h = (λ j. go j (dec_lt j (length xs)), λ j. rw (get_or-append-add xs ys j 0) at (h (length xs + j)))
  where
    go : (j : ℕ) → Dec (j < length xs) → coefficient xs j < c
    go j (yes l) = rw (get_or-append xs ys 0 j l) at (h j)
    go j (no l) = rw (coefficient-past xs j (omega arith)) (omega (arith, h 0))

-- a filled list: what was written, what was there, and its length
pub filled_at : (m : ℕ) (f : ℕ → ℕ) (old : List ℕ) (i : ℕ) → i < m → coefficient (filled m f old) i ≡ f i
filled_at m f old i h = get_or-append (upto m f) (drop m old) 0 i (rw length-upto h) ∙ upto-at m f i h

pub filled-after : (m : ℕ) (f : ℕ → ℕ) (old : List ℕ) (i : ℕ) → m ≤ i → coefficient (filled m f old) i ≡ coefficient old i
filled-after m f old i h =
    let there : m + (i - m) ≡ i = omega arith in
    coefficient-after (upto m f) (drop m old) i (rw length-upto h) ∙ rw (length-upto, get_or-drop, there)

pub length-filled : (m : ℕ) (f : ℕ → ℕ) (old : List ℕ) → m ≤ length old → length (filled m f old) ≡ length old
length-filled m f old h = simp (length-append, length-upto, length-drop) (omega arith)

zeros-at : (z j : ℕ) → coefficient (replicate z 0) j ≡ 0
zeros-at zero j = refl
zeros-at (suc z) zero = refl
zeros-at (suc z) (suc j) = zeros-at z j

pub coefficient-zeros : (xs : List ℕ) (z j : ℕ) → coefficient (xs ++ replicate z 0) j ≡ coefficient xs j
coefficient-zeros [] z j = zeros-at z j
coefficient-zeros (x ∷ xs) z zero = refl
coefficient-zeros (x ∷ xs) z (suc j) = coefficient-zeros xs z j

-- ---- sums

pub length-sum : (xs ys : List ℕ) → length (sum xs ys) ≡ max (length xs) (length ys)
length-sum [] ys = omega arith
length-sum (x ∷ xs) [] = omega arith
length-sum (x ∷ xs) (y ∷ ys) = omega (arith, length-sum xs ys)

pub coefficient-sum : (xs ys : List ℕ) (j : ℕ) → coefficient (sum xs ys) j ≡ coefficient xs j + coefficient ys j
coefficient-sum [] ys j = sym (zero-add (coefficient ys j))
coefficient-sum (x ∷ xs) [] j = sym (add-zero (coefficient (x ∷ xs) j))
coefficient-sum (x ∷ xs) (y ∷ ys) zero = refl
coefficient-sum (x ∷ xs) (y ∷ ys) (suc j) = coefficient-sum xs ys j

pub length-scaled : (c : ℕ) (xs : List ℕ) → length (scaled c xs) ≡ length xs
length-scaled c [] = refl
length-scaled c (x ∷ xs) = ap suc (length-scaled c xs)

pub coefficient-scaled : (c : ℕ) (xs : List ℕ) (j : ℕ) → coefficient (scaled c xs) j ≡ c * coefficient xs j
coefficient-scaled c [] j = sym (mul-zero c)
coefficient-scaled c (x ∷ xs) zero = refl
coefficient-scaled c (x ∷ xs) (suc j) = coefficient-scaled c xs j

-- ---- residues

pub length-residues : (p : ℕ) (xs : List ℕ) → length (residues p xs) ≡ length xs
length-residues p [] = refl
length-residues p (x ∷ xs) = ap suc (length-residues p xs)

pub coefficient-residues : (p : ℕ) (xs : List ℕ) (j : ℕ) → coefficient (residues p xs) j ≡ coefficient xs j % p
coefficient-residues p [] j = sym (zero-mod p)
coefficient-residues p (x ∷ xs) zero = refl
coefficient-residues p (x ∷ xs) (suc j) = coefficient-residues p xs j

-- ---- products

pub length-product : (xs ys : List ℕ) → length (product xs ys) ≡ product_length (length xs) (length ys)
length-product xs ys = length-upto (product_length (length xs) (length ys)) (product_at xs ys)

-- a schoolbook sum in which every term has a factor past its list's end
product_at-past : (xs ys : List ℕ) (j : ℕ) → ((i : ℕ) → i < length xs → length ys ≤ j - i) → product_at xs ys j ≡ 0
product_at-past xs ys j h = sum-zero (suc j) (λ i. coefficient xs i * coefficient ys (j - i)) (λ i l. term i (dec_lt i (length xs)))
  where
    term : (i : ℕ) → Dec (i < length xs) → coefficient xs i * coefficient ys (j - i) ≡ 0
    term i (yes l) = rw (coefficient-past ys (j - i) (h i l), mul-zero)
    term i (no l) = rw (coefficient-past xs i (omega arith), zero-mul)

pub coefficient-product : (xs ys : List ℕ) (j : ℕ) → coefficient (product xs ys) j ≡ product_at xs ys j
coefficient-product xs ys j = go (dec_lt j (product_length (length xs) (length ys)))
  where
    far : (xs ys : List ℕ) → product_length (length xs) (length ys) ≤ j → (i : ℕ) → i < length xs → length ys ≤ j - i
    far [] ys h i l = absurd (omega arith)
    far (x ∷ xs) [] h i l = omega arith
    far (x ∷ xs) (y ∷ ys) h i l = omega arith

    go : Dec (j < product_length (length xs) (length ys)) → coefficient (product xs ys) j ≡ product_at xs ys j
    go (yes h) = upto-at (product_length (length xs) (length ys)) (product_at xs ys) j h
    go (no h) =
        let h2 : product_length (length xs) (length ys) ≤ j = omega arith in
        upto-past (product_length (length xs) (length ys)) (product_at xs ys) j h2 ∙ sym (product_at-past xs ys j (far xs ys h2))

-- x times the second factor, and the rest's product one place up
pub product-row : (x : ℕ) (xs ys : List ℕ) (j : ℕ) → coefficient (product (x ∷ xs) ys) j ≡ coefficient (sum (scaled x ys) (0 ∷ product xs ys)) j
product-row x xs ys zero =
    coefficient-product (x ∷ xs) ys zero ∙ sym (coefficient-sum (scaled x ys) (0 ∷ product xs ys) zero ∙ omega (arith, coefficient-scaled x ys zero))
product-row x xs ys (suc j) =
    coefficient-product (x ∷ xs) ys (suc j)
    ∙ sym (
    coefficient-sum (scaled x ys) (0 ∷ product xs ys) (suc j)
    ∙ rw (coefficient-scaled x ys (suc j), coefficient-product xs ys j, sum-front (suc j) (λ i. coefficient (x ∷ xs) i * coefficient ys (suc j - i)), sub-zero)
    (ap (λ (n : ℕ). x * coefficient ys (suc j) + n) (sum_same (suc j) (λ i. coefficient xs i * coefficient ys (j - i)) (λ i. coefficient xs i * coefficient ys (suc j - suc i)) (λ i l. rw suc-sub-suc)))
    )
