-- Laws of polynomials modulo p. Assumes nothing.
--     cancel-add                           what was added to both sides of a congruence may be left out
--     add-congruent                        congruences may be added
--     minus-zero, minus-residue            nothing taken off; what is taken off counts modulo p only
--     same-sym, same-trans                 one polynomial modulo p: either way round, and on to a third
--     residues_below                       residues are below p
--     length-less, coefficient-less, less-below
--                                          a difference: its length, its coefficients, and that they are below p
--     less-residues                        of what is taken away only the residues count
--     less-adds                            what was taken off, added again, gives the first list modulo p
--     product-sum-left                     the product of a sum is the sum of the products
--     weights-congruent                    in a sum of products each first factor counts modulo p only
--     same-product                         so does the first factor of a product
--     length-term, term-product, term-product-low
--                                          c x^i: its length; c x^i times g has c times the coefficients of g, i places up; and none below
use Rattle.std.specs.Prelude.{ℕ, zero, suc, ◌+◌, ◌-◌, ◌*◌, ◌%◌, ◌≤◌, ◌<◌, ◌≡◌, refl, List, [], ◌∷◌, length, replicate}
use Rattle.std.proofs.Common.{sym, ◌∙◌, add-zero, zero-mul, mul_comm, mod-lt, arith, length-append}
use Rattle.std.proofs.Math.Nat.{mod-mod, mod-add-mod, add-mod}
use Rattle.std.proofs.Math.Decide.{dec_lt}
use Rattle.std.proofs.lemmas.List.{length-replicate, get_or_at}
use Rattle.std.proofs.Math.ListN.{get_or-append}
use Rattle.polynomials.specs.Indices.{sum_to}
use Rattle.polynomials.specs.Lists.{coefficient, sum, product, residues, Below}
use Rattle.polynomials.specs.Places.{packed, minus}
use Rattle.polynomials.specs.IndexLaws.{length-upto, upto-same, upto-at, upto-past, sum-zero, sum-part}
use Rattle.polynomials.specs.ListLaws.{coefficient-past, coefficient-zeros, coefficient-sum, coefficient-product, coefficient-residues}
use Rattle.polynomials.specs.PlaceLaws.{packed-sum, packed-product, packed-same}
use Rattle.polynomials.specs.ReductionLaws.{mul-mod, minus-below, minus_is, minus-only}
use Rattle.divisions.specs.Divisions.{Same, term, less}

-- ---- numbers

pub cancel-add : (p x y r : ℕ) → 0 < p → (x + r) % p ≡ (y + r) % p → x % p ≡ y % p
cancel-add p x y r h e =
    minus-only p (x + r) r (x % p) h (mod-lt x h) (mod-add-mod x p r)
    ∙ sym (minus-only p (x + r) r (y % p) h (mod-lt y h) (mod-add-mod y p r ∙ sym e))

pub add-congruent : (p x y u v : ℕ) → x % p ≡ y % p → u % p ≡ v % p → (x + u) % p ≡ (y + v) % p
add-congruent p x y u v e f = add-mod x u p ∙ rw (e, f) (sym (add-mod y v p))

pub minus-zero : (p x : ℕ) → x < p → minus p x 0 ≡ x
minus-zero p x h = sym (minus-only p x 0 x (omega arith) h (rw add-zero))

pub minus-residue : (p x w : ℕ) → minus p x (w % p) ≡ minus p x w
minus-residue p x w = rw mod-mod

-- ---- one polynomial modulo p

pub same-sym : (p : ℕ) (a b : List ℕ) → Same p a b → Same p b a
same-sym p a b s = record { each = λ j. sym (s.each j) }

pub same-trans : (p : ℕ) (a b c : List ℕ) → Same p a b → Same p b c → Same p a c
same-trans p a b c s t = record { each = λ j. s.each j ∙ t.each j }

pub residues_below : (p : ℕ) (xs : List ℕ) → 0 < p → Below p (residues p xs)
residues_below p xs h j = rw (coefficient-residues p xs j) (mod-lt (coefficient xs j) h)

-- ---- differences

pub length-less : (p : ℕ) (a b : List ℕ) → length (less p a b) ≡ length a
length-less p a b = length-upto (length a) (λ j. minus p (coefficient a j) (coefficient b j))

pub coefficient-less : (p : ℕ) (a b : List ℕ) (j : ℕ) → j < length a → coefficient (less p a b) j ≡ minus p (coefficient a j) (coefficient b j)
coefficient-less p a b j l = upto-at (length a) (λ j. minus p (coefficient a j) (coefficient b j)) j l

less-past : (p : ℕ) (a b : List ℕ) (j : ℕ) → length a ≤ j → coefficient (less p a b) j ≡ 0
less-past p a b j l = upto-past (length a) (λ j. minus p (coefficient a j) (coefficient b j)) j l

pub less-below : (p : ℕ) (a b : List ℕ) → 0 < p → Below p (less p a b)
less-below p a b h j = go (dec_lt j (length a))
  where
    go : Dec (j < length a) → coefficient (less p a b) j < p
    go (yes l) = rw (coefficient-less p a b j l) (minus-below p (coefficient a j) (coefficient b j) h)
    go (no l) = rw (less-past p a b j (omega arith)) h

pub less-adds : (p : ℕ) (a b : List ℕ) → 0 < p → length b ≤ length a → (j : ℕ) → (coefficient (less p a b) j + coefficient b j) % p ≡ coefficient a j % p
less-adds p a b h short j = go (dec_lt j (length a))
  where
    go : Dec (j < length a) → (coefficient (less p a b) j + coefficient b j) % p ≡ coefficient a j % p
    go (yes l) = rw (coefficient-less p a b j l) (minus_is p (coefficient a j) (coefficient b j) h)
    go (no l) = rw (less-past p a b j (omega arith), coefficient-past b j (omega arith), coefficient-past a j (omega arith))

pub less-residues : (p : ℕ) (a b : List ℕ) → less p a (residues p b) ≡ less p a b
less-residues p a b =
    upto-same (length a) (λ j. minus p (coefficient a j) (coefficient (residues p b) j)) (λ j. minus p (coefficient a j) (coefficient b j))
    (λ j l. rw (coefficient-residues p b j) (minus-residue p (coefficient a j) (coefficient b j)))

-- ---- products

pub product-sum-left : (xs ys zs : List ℕ) (j : ℕ) → coefficient (product (sum xs ys) zs) j ≡ coefficient (product xs zs) j + coefficient (product ys zs) j
product-sum-left xs ys zs j =
    packed-same (product (sum xs ys) zs) (sum (product xs zs) (product ys zs)) at_every j ∙ coefficient-sum (product xs zs) (product ys zs) j
  where
    at_every : (q : ℕ) → packed q (product (sum xs ys) zs) ≡ packed q (sum (product xs zs) (product ys zs))
    at_every q =
        rw (packed-product q (sum xs ys) zs, packed-sum q xs ys, packed-sum q (product xs zs) (product ys zs), packed-product q xs zs, packed-product q ys zs)
        (omega arith)

pub weights-congruent : (p n : ℕ) (f g w : ℕ → ℕ) → ((i : ℕ) → i < n → f i % p ≡ g i % p) → sum_to n (λ i. f i * w i) % p ≡ sum_to n (λ i. g i * w i) % p
weights-congruent p zero f g w h = refl
weights-congruent p (suc n) f g w h =
    let last : f n * w n % p ≡ g n * w n % p = rw (mul_comm (f n), mul_comm (g n)) (sym (mul-mod (w n) (f n) p) ∙ rw (h n (omega arith)) (mul-mod (w n) (g n) p)) in
    add-congruent p (sum_to n (λ i. f i * w i)) (sum_to n (λ i. g i * w i)) (f n * w n) (g n * w n) (weights-congruent p n f g w (λ i l. h i (omega arith))) last

pub same-product : (p : ℕ) (a b g : List ℕ) → Same p a b → Same p (product a g) (product b g)
same-product p a b g s = record {
  each = λ j. rw (coefficient-product a g j, coefficient-product b g j)
      (weights-congruent p (suc j) (coefficient a) (coefficient b) (λ i. coefficient g (j - i)) (λ i l. s.each i));
}

-- ---- one power

pub length-term : (c i : ℕ) → length (term c i) ≡ i + 1
length-term c i = length-append (replicate i 0) (c ∷ []) ∙ rw length-replicate

term-at : (c i : ℕ) → coefficient (term c i) i ≡ c
term-at c i = get_or_at (replicate i 0) c [] 0 i (length-replicate i 0)

term-below : (c i j : ℕ) → j < i → coefficient (term c i) j ≡ 0
term-below c i j l = get_or-append (replicate i 0) (c ∷ []) 0 j (rw length-replicate l) ∙ coefficient-zeros [] i j

pub term-product : (c i : ℕ) (g : List ℕ) (j : ℕ) → i ≤ j → coefficient (product (term c i) g) j ≡ c * coefficient g (j - i)
term-product c i g j h =
    coefficient-product (term c i) g j
    ∙ sum-part (λ l. coefficient (term c i) l * coefficient g (j - l)) i 1 (suc j) (omega arith)
    (λ l b. rw (term-below c i l b, zero-mul)) (λ l b t. rw (coefficient-past (term c i) l (rw length-term b), zero-mul))
    ∙ rw (add-zero i, term-at c i) (omega arith)

pub term-product-low : (c i : ℕ) (g : List ℕ) (j : ℕ) → j < i → coefficient (product (term c i) g) j ≡ 0
term-product-low c i g j h =
    coefficient-product (term c i) g j ∙ sum-zero (suc j) (λ l. coefficient (term c i) l * coefficient g (j - l)) (λ l b. rw (term-below c i l (omega arith), zero-mul))
