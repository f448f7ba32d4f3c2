-- Laws of the division by a monic polynomial. Assumes nothing.
--     divided-length                       the steps of a division keep the length
--     remainder-length, remainder-below    the remainder has m coefficients, all below p
--     divided-first                        of a list below p, the lowest m coefficients that the steps leave are the remainder
--     divides                              a is the quotient times g and the remainder, modulo p
--     multiple                             a less its remainder is the quotient times g: g divides it
--     unique                               no other quotient and remainder of at most m coefficients do so, modulo p
--     unique-remainder                     and no other list of m coefficients below p is the remainder
--     multiples-agree                      two multiples of g that agree from x^m on, and have coefficients below p under it, agree there too
use Prim.Native.Nat.{ℕ, zero, suc, ◌+◌, ◌-◌, ◌*◌, ◌%◌, ◌≤◌, ◌<◌, max}
use Rattle.std.specs.Prelude.{◌≡◌, length, replicate, take}
use Rattle.std.proofs.Math.Path.{refl, sym, ap}
use Rattle.std.proofs.Common.{◌∙◌, ⊎_elim, add-zero, add_comm, mul-zero, mul-one, mod-lt, mod-eq_of_lt, lt_of_le_of_lt, eq-or-lt_of_le, add-one, arith, length-append, length-take-le, get_or-take}
use mathlib.Core.List.{List, [], ◌∷◌, ◌++◌}
use Rattle.std.proofs.Math.Nat.{zero-add, add-mod-mod, zero-mod}
use Rattle.std.proofs.Math.Decide.{dec_lt}
use Rattle.std.proofs.lemmas.List.{length-replicate}
use Rattle.polynomials.specs.Indices.{sum_to}
use Rattle.polynomials.specs.Lists.{coefficient, sum, product, Below}
use Rattle.polynomials.specs.Places.{packed}
use Rattle.polynomials.specs.IndexLaws.{length-upto, upto-at, upto-past, upto-most, sum-part, sum-front}
use Rattle.polynomials.specs.ListLaws.{lists_agree, coefficient-past, coefficient-sum, coefficient-product, length-product}
use Rattle.polynomials.specs.PlaceLaws.{packed-sum, packed-product, packed-same, packed-snoc, packed-zeros}
use Rattle.divisions.specs.Divisions.{Same, Monic, degree, term, less, cancelled, divided, quotients, quotient, remainder}
use Rattle.divisions.specs.CongruenceLaws.{cancel-add, add-congruent, same-sym, same-trans, length-less, less-below, less-adds, product-sum-left, weights-congruent, same-product, length-term, term-product}

-- ---- lengths

pub divided-length : (p : ℕ) (g : List ℕ) (i : ℕ) (a : List ℕ) → length (divided p g i a) ≡ length a
unfolding divided
divided-length p g zero a = refl
divided-length p g (suc i) a = divided-length p g i (cancelled p g i a) ∙ length-less p a (product (term (coefficient a (degree g + i)) i) g)

quotients-length : (p : ℕ) (g : List ℕ) (i : ℕ) (a : List ℕ) → length (quotients p g i a) ≡ i
unfolding quotients
quotients-length p g zero a = refl
quotients-length p g (suc i) a =
    length-append (quotients p g i (cancelled p g i a)) (coefficient a (degree g + i) ∷ []) ∙ omega (arith, quotients-length p g i (cancelled p g i a))

-- what the steps leave
abbrev rest : ℕ → List ℕ → List ℕ → List ℕ
rest p g a = divided p g (length a - degree g) a

pub remainder-length : (p : ℕ) (g a : List ℕ) → length (remainder p g a) ≡ degree g
remainder-length p g a = length-upto (degree g) (λ j. coefficient (rest p g a) j % p)

pub remainder-below : (p : ℕ) (g a : List ℕ) → 0 < p → Below p (remainder p g a)
remainder-below p g a h j = lt_of_le_of_lt (upto-most (degree g) (λ j. coefficient (rest p g a) j % p) j) (mod-lt (coefficient (rest p g a) j) h)

divided-below : (p : ℕ) (g : List ℕ) (i : ℕ) (a : List ℕ) → 0 < p → Below p a → Below p (divided p g i a)
unfolding divided
divided-below p g zero a h b = b
divided-below p g (suc i) a h b = divided-below p g i (cancelled p g i a) h (less-below p a (product (term (coefficient a (degree g + i)) i) g) h)

pub divided-first : (p : ℕ) (g a : List ℕ) → 0 < p → Below p a → degree g ≤ length a → take (degree g) (divided p g (length a - degree g) a) ≡ remainder p g a
divided-first p g a h b l =
    lists_agree (take (degree g) (rest p g a)) (remainder p g a) (size ∙ sym (remainder-length p g a))
    (λ j t. let low : j < degree g = rw size at t in at j low)
  where
    size : length (take (degree g) (rest p g a)) ≡ degree g
    size = length-take-le (degree g) (rest p g a) (rw divided-length l)

    at : (j : ℕ) → j < degree g → coefficient (take (degree g) (rest p g a)) j ≡ coefficient (remainder p g a) j
    at j low =
        get_or-take (degree g) (rest p g a) j 0 low
        ∙ sym (
        upto-at (degree g) (λ j. coefficient (rest p g a) j % p) j low
        ∙ mod-eq_of_lt (divided-below p g (length a - degree g) a h b j)
        )

-- ---- a step

-- the quotient grows at its high end
snoc-product : (qs : List ℕ) (c i : ℕ) (g : List ℕ) (j : ℕ) → length qs ≡ i
    → coefficient (product (qs ++ (c ∷ [])) g) j ≡ coefficient (product qs g) j + coefficient (product (term c i) g) j
snoc-product qs c i g j e = packed-same (product (qs ++ (c ∷ [])) g) (product (sum qs (term c i)) g) at_every j ∙ product-sum-left qs (term c i) g j
  where
    zeros : (q : ℕ) → packed q (replicate i 0) ≡ 0
    zeros q = packed-zeros q [] i

    at_every : (q : ℕ) → packed q (product (qs ++ (c ∷ [])) g) ≡ packed q (product (sum qs (term c i)) g)
    at_every q =
        rw (
          packed-product q (qs ++ (c ∷ [])) g,
          packed-product q (sum qs (term c i)) g,
          packed-sum q qs (term c i),
          packed-snoc q qs c,
          packed-snoc q (replicate i 0) c,
          zeros q,
          length-replicate,
          e,
          zero-add,
        )

module _ (p m : ℕ) (g : List ℕ) (hp : 0 < p) (mo : Monic m g) where
  -- what a step takes off, added again
  step-adds : (i : ℕ) (a : List ℕ) → suc i ≤ length a - degree g → (j : ℕ)
      → (coefficient (cancelled p g i a) j + coefficient (product (term (coefficient a (degree g + i)) i) g) j) % p ≡ coefficient a j % p
  step-adds i a h j =
      less-adds p a (product (term (coefficient a (degree g + i)) i) g) hp
      (rw (length-product (term (coefficient a (degree g + i)) i) g, length-term (coefficient a (degree g + i)) i, add-one, mo.size) (omega (arith, mo.size))) j

  -- from x^(m + i) on it takes off all there is, where there is none above
  step-takes : (i : ℕ) (a : List ℕ) → ((j : ℕ) → m + suc i ≤ j → coefficient a j % p ≡ 0)
      → (j : ℕ) → m + i ≤ j → coefficient a j % p ≡ coefficient (product (term (coefficient a (degree g + i)) i) g) j % p
  step-takes i a zeros j l = rw (term-product (coefficient a (degree g + i)) i g j (omega arith)) (⊎_elim at_top above (eq-or-lt_of_le l))
    where
      at_top : m + i ≡ j → coefficient a j % p ≡ coefficient a (degree g + i) * coefficient g (j - i) % p
      at_top e =
          let here : degree g + i ≡ j = omega (arith, mo.size) in
          let there : j - i ≡ m = omega arith in
          rw (here, there, mo.top, mul-one)

      above : m + i < j → coefficient a j % p ≡ coefficient a (degree g + i) * coefficient g (j - i) % p
      above b = rw (coefficient-past g (j - i) (omega (arith, mo.size)), mul-zero, zero-mod) (zeros j (omega arith))

  -- so it leaves zeros there
  step-clears : (i : ℕ) (a : List ℕ) → suc i ≤ length a - degree g → ((j : ℕ) → m + suc i ≤ j → coefficient a j % p ≡ 0)
      → (j : ℕ) → m + i ≤ j → coefficient (cancelled p g i a) j % p ≡ 0
  step-clears i a h zeros j l =
      cancel-add p (coefficient (cancelled p g i a) j) 0 (coefficient (product (term (coefficient a (degree g + i)) i) g) j) hp
      (step-adds i a h j ∙ step-takes i a zeros j l ∙ rw zero-add)
      ∙ zero-mod p

  -- all the steps: they leave zeros from x^m on, and what they take off is their quotient times g
  steps-clear : (i : ℕ) (a : List ℕ) → i ≤ length a - degree g → ((j : ℕ) → m + i ≤ j → coefficient a j % p ≡ 0)
      → (j : ℕ) → m ≤ j → coefficient (divided p g i a) j % p ≡ 0
  unfolding divided
  steps-clear zero a h zeros j l = zeros j (omega arith)
  steps-clear (suc i) a h zeros j l = steps-clear i (cancelled p g i a) (rw length-less (omega arith)) (step-clears i a h zeros) j l

  steps-add : (i : ℕ) (a : List ℕ) → i ≤ length a - degree g → (j : ℕ)
      → coefficient a j % p ≡ (coefficient (product (quotients p g i a) g) j + coefficient (divided p g i a) j) % p
  unfolding divided quotients
  steps-add zero a h j = rw zero-add
  steps-add (suc i) a h j =
      let c : ℕ = coefficient a (degree g + i) in
      let b : List ℕ = cancelled p g i a in
      sym (step-adds i a h j)
      ∙ add-congruent p (coefficient b j) (coefficient (product (quotients p g i b) g) j + coefficient (divided p g i b) j)
      (coefficient (product (term c i) g) j) (coefficient (product (term c i) g) j) (steps-add i b (rw length-less (omega arith)) j) refl
      ∙ ap (λ (n : ℕ). n % p) (omega (arith, snoc-product (quotients p g i b) c i g j (quotients-length p g i b)))

  -- the remainder is what they leave
  remainder-at : (a : List ℕ) (j : ℕ) → coefficient (remainder p g a) j ≡ coefficient (rest p g a) j % p
  remainder-at a j = go (dec_lt j (degree g))
    where
      go : Dec (j < degree g) → coefficient (remainder p g a) j ≡ coefficient (rest p g a) j % p
      go (yes l) = upto-at (degree g) (λ j. coefficient (rest p g a) j % p) j l
      go (no l) =
          upto-past (degree g) (λ j. coefficient (rest p g a) j % p) j (omega arith)
          ∙ sym (steps-clear (length a - degree g) a (omega arith) (λ k b. rw (coefficient-past a k (omega (arith, mo.size)), zero-mod)) j (omega (arith, mo.size)))

pub divides : (p m : ℕ) (g a : List ℕ) → 0 < p → Monic m g → Same p a (sum (product (quotient p g a) g) (remainder p g a))
divides p m g a hp mo = record {
  each = λ j. steps-add p m g hp mo (length a - degree g) a (omega arith) j
      ∙ sym (rw (coefficient-sum (product (quotient p g a) g) (remainder p g a) j, remainder-at p m g hp mo a j) (add-mod-mod (coefficient (product (quotient p g a) g) j) (coefficient (rest p g a) j) p));
}

pub multiple : (p m : ℕ) (g a : List ℕ) → 0 < p → Monic m g → m ≤ length a → Same p (less p a (remainder p g a)) (product (quotient p g a) g)
multiple p m g a hp mo h = record {
  each = λ j. cancel-add p (coefficient (less p a (remainder p g a)) j) (coefficient (product (quotient p g a) g) j) (coefficient (remainder p g a) j) hp
      (less-adds p a (remainder p g a) hp (rw remainder-length (omega (arith, mo.size))) j
      ∙ (divides p m g a hp mo).each j
      ∙ rw (coefficient-sum (product (quotient p g a) g) (remainder p g a) j));
}

-- ---- no other quotient and remainder

-- what the coefficients of q above x^i give at x^(m + i)
abbrev higher : ℕ → List ℕ → List ℕ → ℕ → ℕ
higher m g q i = sum_to m (λ l. coefficient q (i + suc l) * coefficient g (m + i - (i + suc l)))

top-coefficient : (m : ℕ) (g : List ℕ) → Monic m g → (q r : List ℕ) → length r ≤ m → (i : ℕ)
    → coefficient (sum (product q g) r) (m + i) ≡ coefficient q i + higher m g q i
top-coefficient m g mo q r h i =
    let parts : sum_to (suc (m + i)) terms ≡ sum_to (suc m) (λ l. terms (i + l)) = sum-part terms i (suc m) (suc (m + i)) (omega arith) (λ l b. rw (coefficient-past g (m + i - l) (omega (arith, mo.size)), mul-zero)) (λ l b t. absurd (omega arith)) in
    let here : m + i - i ≡ m = omega arith in
    let first : terms (i + 0) ≡ coefficient q i = rw (add-zero i, here, mo.top, mul-one) in
    coefficient-sum (product q g) r (m + i)
    ∙ rw (coefficient-product q g (m + i), coefficient-past r (m + i) (omega arith), add-zero)
    (parts ∙ sum-front m (λ l. terms (i + l)) ∙ ap (λ (n : ℕ). n + higher m g q i) first)
  where
    terms : ℕ → ℕ
    terms l = coefficient q l * coefficient g (m + i - l)

-- two of them for one polynomial
module _ (p m : ℕ) (g : List ℕ) (hp : 0 < p) (mo : Monic m g) (q r s t : List ℕ) (hr : length r ≤ m) (ht : length t ≤ m)
    (e : Same p (sum (product q g) r) (sum (product s g) t)) where
  agree_at : (i : ℕ) → ((l : ℕ) → i < l → coefficient q l % p ≡ coefficient s l % p) → coefficient q i % p ≡ coefficient s i % p
  agree_at i h =
      let tops : (coefficient q i + higher m g q i) % p ≡ (coefficient s i + higher m g s i) % p = rw (top-coefficient m g mo q r hr i, top-coefficient m g mo s t ht i) at (e.each (m + i)) in
      let same : higher m g s i % p ≡ higher m g q i % p = sym (weights-congruent p m (λ l. coefficient q (i + suc l)) (λ l. coefficient s (i + suc l)) (λ l. coefficient g (m + i - (i + suc l))) (λ l b. h (i + suc l) (omega arith))) in
      cancel-add p (coefficient q i) (coefficient s i) (higher m g q i) hp
      (tops ∙ add-congruent p (coefficient s i) (coefficient s i) (higher m g s i) (higher m g q i) refl same)

  -- from the highest power down
  agree-from : (d i : ℕ) → max (length q) (length s) ≤ i + d → coefficient q i % p ≡ coefficient s i % p
  agree-from zero i h = rw (coefficient-past q i (omega arith), coefficient-past s i (omega arith))
  agree-from (suc d) i h = agree_at i (λ l b. agree-from d l (omega arith))

  quotients-agree : Same p q s
  quotients-agree = record { each = λ i. agree-from (max (length q) (length s)) i (omega arith) }

  remainders-agree : Same p r t
  remainders-agree = record {
    each = λ j. let both : (coefficient (product q g) j + coefficient r j) % p ≡ (coefficient (product s g) j + coefficient t j) % p = rw (coefficient-sum (product q g) r j, coefficient-sum (product s g) t j) at (e.each j) in
        cancel-add p (coefficient r j) (coefficient t j) (coefficient (product q g) j) hp
        (rw (add_comm (coefficient r j), add_comm (coefficient t j))
        (both
        ∙ add-congruent p (coefficient (product s g) j) (coefficient (product q g) j) (coefficient t j) (coefficient t j) (sym ((same-product p q s g quotients-agree).each j)) refl));
  }

pub unique : (p m : ℕ) (g a q r : List ℕ) → 0 < p → Monic m g → length r ≤ m → Same p a (sum (product q g) r) → Same p q (quotient p g a) × Same p r (remainder p g a)
unique p m g a q r hp mo h e =
    let short : length (remainder p g a) ≤ m = rw remainder-length (omega (arith, mo.size)) in
    let both : Same p (sum (product q g) r) (sum (product (quotient p g a) g) (remainder p g a)) = same-trans p (sum (product q g) r) a (sum (product (quotient p g a) g) (remainder p g a)) (same-sym p a (sum (product q g) r) e) (divides p m g a hp mo) in
    (quotients-agree p m g hp mo q r (quotient p g a) (remainder p g a) h short both, remainders-agree p m g hp mo q r (quotient p g a) (remainder p g a) h short both)

pub unique-remainder : (p m : ℕ) (g a q r : List ℕ) → 0 < p → Monic m g → length r ≡ m → Below p r → Same p a (sum (product q g) r) → r ≡ remainder p g a
unique-remainder p m g a q r hp mo h b e =
    let same : Same p r (remainder p g a) = (unique p m g a q r hp mo (omega arith) e).1 in
    lists_agree r (remainder p g a) (rw remainder-length (omega (arith, mo.size)))
    (λ j l. sym (mod-eq_of_lt (b j)) ∙ same.each j ∙ mod-eq_of_lt (remainder-below p g a hp j))

-- ---- two multiples that agree from x^m on

-- each with the lowest coefficients of the other added
lowest-added : (c d xs : List ℕ) → length c ≡ length d → (j : ℕ) → coefficient (c ++ xs) j + coefficient d j ≡ coefficient (d ++ xs) j + coefficient c j
lowest-added [] [] xs e j = refl
lowest-added [] (y ∷ d) xs e j = absurd (omega arith)
lowest-added (x ∷ c) [] xs e j = absurd (omega arith)
lowest-added (x ∷ c) (y ∷ d) xs e zero = add_comm x y
lowest-added (x ∷ c) (y ∷ d) xs e (suc j) = lowest-added c d xs (omega arith) j

module _ (p m : ℕ) (g c d xs q s : List ℕ) (hp : 0 < p) (mo : Monic m g) (size-c : length c ≡ m) (size-d : length d ≡ m) (below-c : Below p c) (below-d : Below p d)
    (first : Same p (c ++ xs) (product q g)) (second : Same p (d ++ xs) (product s g)) where
  -- the one multiple and d is the other and c
  both : Same p (sum (product q g) d) (sum (product s g) c)
  both = record {
    each = λ j. rw (coefficient-sum (product q g) d j, coefficient-sum (product s g) c j)
        (sym (add-congruent p (coefficient (c ++ xs) j) (coefficient (product q g) j) (coefficient d j) (coefficient d j) (first.each j) refl)
        ∙ ap (λ (n : ℕ). n % p) (lowest-added c d xs (size-c ∙ sym size-d) j)
        ∙ add-congruent p (coefficient (d ++ xs) j) (coefficient (product s g) j) (coefficient c j) (coefficient c j) (second.each j) refl);
  }

  -- so both are its remainder
  pub multiples-agree : c ≡ d
  multiples-agree =
      let a : List ℕ = sum (product q g) d in
      unique-remainder p m g a s c hp mo size-c below-c both ∙ sym (unique-remainder p m g a q d hp mo size-d below-d (record { each = λ j. refl }))
