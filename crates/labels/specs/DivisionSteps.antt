-- What the division's workers need of lists: of a step, and of the whole division. Assumes nothing.
--     multiple_of g part                 the multiple of g that has the highest coefficient of part
--     worked g part                     part less that multiple, modulo 929: a step on its part of the list
--     multiple-size, multiple-below     the multiple as product writes it: its length, and that it is below 929
--     step_words                        taking it away is the step
--     replaced i end xs ys              xs with ys in the place of those from i up to end, as a lent part comes back
--     Halfway g old i a                 a is what old has become with i steps of the division to come
--     division-begun, division-part, division-turn, division-ended
--                                       the loop of the division: its start, what its step works on, its turn, its end
use Rattle.std.specs.Prelude.{◌≡◌, refl, List, [], ◌∷◌, ◌++◌, length, take, drop, Result, ℕ, zero, suc, ◌+◌, ◌-◌, ◌≤◌, ◌<◌}
use Rattle.std.proofs.Common.{sym, ◌∙◌, mul-zero, length-append, length-drop, length-take-le, get_or-take, get_or-drop, arith}
use Rattle.std.proofs.Math.Path.{ap}
use Rattle.std.proofs.Math.Nat.{sub-zero}
use Rattle.std.proofs.Math.Decide.{dec_lt}
use Rattle.std.proofs.Math.ListN.{get_or-append}
use Rattle.polynomials.specs.Lists.{coefficient, part, product, residues, Below}
use Rattle.polynomials.specs.ListLaws.{lists_agree, coefficient-past, coefficient-after, length_part, coefficient-part, part_below}
use Rattle.divisions.specs.Divisions.{degree, term, less, cancelled, divided}
use Rattle.divisions.specs.CongruenceLaws.{minus-zero, residues_below, length-less, coefficient-less, less-below, less-residues, term-product, term-product-low}
use Rattle.packed.specs.Products.{Multiplies}
use Rattle.labels.specs.Labels.{modulus, most_checks}
use Rattle.labels.specs.Working.{Divisor, Dividing}
use Rattle.labels.specs.SettingLaws.{label_setting}
use Rattle.labels.specs.MultiplyLaws.{product-words, multiplied}
use Rattle.settings.specs.declared.refusals.Refusal.{Refusal}

-- ---- a step

abbrev pub multiple_of : List ℕ → List ℕ → List ℕ
multiple_of g part = product (coefficient part (degree g) ∷ []) g

abbrev pub worked : List ℕ → List ℕ → List ℕ
worked g part = less modulus part (multiple_of g part)

module _ (g part old after : List ℕ) (r : Result ℕ Refusal) (d : Divisor g part) (room : length g ≤ length old)
    (m : Multiplies label_setting (coefficient part (degree g) ∷ []) g old r after) where
  multiple : take (length g) after ≡ residues modulus (multiple_of g part)
  multiple =
      multiplied (coefficient part (degree g) ∷ []) g one_below d.below (omega arith) d.few (length g) old after r (omega arith) d.some (omega arith) room m
    where
      one_below : Below modulus (coefficient part (degree g) ∷ [])
      one_below zero = d.part_below (degree g)
      one_below (suc j) = omega arith

  pub multiple-size : length (take (length g) after) ≡ length g
  multiple-size = rw multiple (product-words (coefficient part (degree g) ∷ []) g (length g) (omega arith) d.some (omega arith))

  pub multiple-below : Below modulus (take (length g) after)
  multiple-below = rw multiple (residues_below modulus (multiple_of g part) (omega arith))

  pub step_words : (now : List ℕ) → now ≡ less modulus part (take (length g) after) → now ≡ worked g part
  step_words now e = e ∙ rw multiple (less-residues modulus part (multiple_of g part))

-- ---- the division

abbrev pub replaced : ℕ → ℕ → List ℕ → List ℕ → List ℕ
replaced i end xs ys = take i xs ++ (ys ++ drop (end - i) (drop i xs))

module _ (i end : ℕ) (xs ys : List ℕ) (order : i ≤ end) (within : end ≤ length xs) (size : length ys ≡ end - i) where
  before-size : length (take i xs) ≡ i
  before-size = length-take-le i xs (omega arith)

  length-replaced : length (replaced i end xs ys) ≡ length xs
  length-replaced = simp (length-append, before-size, size, length-drop) (omega arith)

  replaced-before : (j : ℕ) → j < i → coefficient (replaced i end xs ys) j ≡ coefficient xs j
  replaced-before j h = get_or-append (take i xs) (ys ++ drop (end - i) (drop i xs)) 0 j (rw before-size h) ∙ get_or-take i xs j 0 h

  replaced-after : (j : ℕ) → i ≤ j → coefficient (replaced i end xs ys) j ≡ coefficient (ys ++ drop (end - i) (drop i xs)) (j - i)
  replaced-after j h = coefficient-after (take i xs) (ys ++ drop (end - i) (drop i xs)) j (rw before-size h) ∙ rw before-size

  replaced-inside : (j : ℕ) → i ≤ j → j < end → coefficient (replaced i end xs ys) j ≡ coefficient ys (j - i)
  replaced-inside j h l = replaced-after j h ∙ get_or-append ys (drop (end - i) (drop i xs)) 0 (j - i) (rw size (omega arith))

  replaced-past : (j : ℕ) → end ≤ j → coefficient (replaced i end xs ys) j ≡ coefficient xs j
  replaced-past j h =
      let there : i + (end - i + (j - i - (end - i))) ≡ j = omega arith in
      replaced-after j (omega arith)
      ∙ coefficient-after ys (drop (end - i) (drop i xs)) (j - i) (rw size (omega arith))
      ∙ rw (size, get_or-drop (end - i), get_or-drop i, there)

module _ (g a : List ℕ) (i : ℕ) (some : 0 < length g) (below : Below modulus a) (within : i + length g ≤ length a) where
  part-divisor : length g ≤ most_checks + 1 → Below modulus g → Divisor g (part i (i + length g) a)
  part-divisor few g-below = record {
    some = some;
    few = few;
    same_size = length_part i (i + length g) a within ∙ omega arith;
    below = g-below;
    part_below = part_below modulus i (i + length g) a (omega arith) below;
  }

  -- the highest coefficient of the part is that of the list at the step's place
  highest : coefficient (part i (i + length g) a) (degree g) ≡ coefficient a (degree g + i)
  highest = coefficient-part i (i + length g) a (degree g) (omega arith) ∙ ap (coefficient a) (omega arith)

  multiple-at : (j : ℕ) → i ≤ j → coefficient (multiple_of g (part i (i + length g) a)) (j - i) ≡ coefficient (product (term (coefficient a (degree g + i)) i) g) j
  multiple-at j h =
      term-product (coefficient (part i (i + length g) a) (degree g)) 0 g (j - i) (omega arith)
      ∙ rw (highest, sub-zero) (sym (term-product (coefficient a (degree g + i)) i g j h))

  -- places that the multiple does not reach stay
  stays : (j : ℕ) → j < length a → coefficient (product (term (coefficient a (degree g + i)) i) g) j ≡ 0 → coefficient (cancelled modulus g i a) j ≡ coefficient a j
  stays j l e = coefficient-less modulus a (product (term (coefficient a (degree g + i)) i) g) j l ∙ rw e (minus-zero modulus (coefficient a j) (below j))

  worked-size : length (worked g (part i (i + length g) a)) ≡ i + length g - i
  worked-size = length-less modulus (part i (i + length g) a) (multiple_of g (part i (i + length g) a)) ∙ length_part i (i + length g) a within

  worked-at : (j : ℕ) → i ≤ j → j < i + length g → coefficient (worked g (part i (i + length g) a)) (j - i) ≡ coefficient (cancelled modulus g i a) j
  worked-at j h l =
      let there : i + (j - i) ≡ j = omega arith in
      coefficient-less modulus (part i (i + length g) a) (multiple_of g (part i (i + length g) a)) (j - i) (rw (length_part i (i + length g) a within) (omega arith))
      ∙ rw (coefficient-part i (i + length g) a (j - i) (omega arith), there, multiple-at j h)
      (sym (coefficient-less modulus a (product (term (coefficient a (degree g + i)) i) g) j (omega arith)))

  part-worked : replaced i (i + length g) a (worked g (part i (i + length g) a)) ≡ cancelled modulus g i a
  part-worked =
      lists_agree (replaced i (i + length g) a (worked g (part i (i + length g) a))) (cancelled modulus g i a)
      (whole ∙ sym (length-less modulus a (product (term (coefficient a (degree g + i)) i) g))) (λ j l. at j (rw whole at l) (dec_lt j i) (dec_lt j (i + length g)))
    where
      whole : length (replaced i (i + length g) a (worked g (part i (i + length g) a))) ≡ length a
      whole = length-replaced i (i + length g) a (worked g (part i (i + length g) a)) (omega arith) within worked-size

      at : (j : ℕ) → j < length a → Dec (j < i) → Dec (j < i + length g)
          → coefficient (replaced i (i + length g) a (worked g (part i (i + length g) a))) j ≡ coefficient (cancelled modulus g i a) j
      at j l (yes h) d =
          replaced-before i (i + length g) a (worked g (part i (i + length g) a)) (omega arith) within worked-size j h
          ∙ sym (stays j l (term-product-low (coefficient a (degree g + i)) i g j h))
      at j l (no h) (yes k) =
          replaced-inside i (i + length g) a (worked g (part i (i + length g) a)) (omega arith) within worked-size j (omega arith) k ∙ worked-at j (omega arith) k
      at j l (no h) (no k) =
          replaced-past i (i + length g) a (worked g (part i (i + length g) a)) (omega arith) within worked-size j (omega arith)
          ∙ sym (stays j l (term-product (coefficient a (degree g + i)) i g j (omega arith) ∙ rw (coefficient-past g (j - i) (omega arith), mul-zero)))

pub record Halfway (g old : List ℕ) (i : ℕ) (a : List ℕ) : Type 0 where
  pub within : i + degree g ≤ length old
  pub size : length a ≡ length old
  pub below : Below modulus a
  pub same : divided modulus g i a ≡ divided modulus g (length old - degree g) old

module _ (g old : List ℕ) (d : Dividing g old) where
  pub division-begun : Halfway g old (length old + 1 - length g) old
  division-begun =
      let steps : length old + 1 - length g ≡ length old - degree g = omega (arith, d.some, d.longer) in
      record { within = omega (arith, d.some, d.longer); size = refl; below = d.part_below; same = rw steps }

  pub division-ended : (i : ℕ) (a : List ℕ) → Halfway g old i a → i ≤ 0 → a ≡ divided modulus g (length old - degree g) old
  unfolding divided
  division-ended i a h through =
      let none : i ≡ 0 = omega arith in
      rw none at h.same

  module _ (i : ℕ) (a : List ℕ) (h : Halfway g old i a) (more : 0 < i) where
    step-within : i - 1 + length g ≤ length a
    step-within = omega (arith, d.some, h.within, h.size)

    step_left : divided modulus g (i - 1) (cancelled modulus g (i - 1) a) ≡ divided modulus g i a
    unfolding divided
    step_left =
        let one : suc (i - 1) ≡ i = omega arith in
        ap (λ (n : ℕ). divided modulus g n a) one

    pub division-part : Divisor g (part (i - 1) (i - 1 + length g) a)
    division-part = part-divisor g a (i - 1) d.some h.below step-within d.few d.below

    pub division-turn : (now : List ℕ) → now ≡ worked g (part (i - 1) (i - 1 + length g) a) → Halfway g old (i - 1) (replaced (i - 1) (i - 1 + length g) a now)
    division-turn now e =
        let taken : replaced (i - 1) (i - 1 + length g) a now ≡ cancelled modulus g (i - 1) a = rw e (part-worked g a (i - 1) d.some h.below step-within) in
        rw taken
        (record {
          within = omega (arith, h.within);
          size = length-less modulus a (product (term (coefficient a (degree g + (i - 1))) (i - 1)) g) ∙ h.size;
          below = less-below modulus a (product (term (coefficient a (degree g + (i - 1))) (i - 1)) g) (omega arith);
          same = step_left ∙ h.same;
        })
