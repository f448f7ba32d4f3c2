-- The coefficients that a call is given, and 8. Definitions, and what passing the check says.
--     too_large p xs i           coefficient i is p or more
--     first_bad p xs             the first such index, and the length where there is none
--     FindsBad p xs r           the promise of first_bad: r is that index, or none; first-bad-once: it allows one answer only
--     first_bad_of_two p xs ys     the first list is searched first, and an index in the second has the first's length added
--     coefficient_check p xs, coefficients_check p xs ys
--                               8 with that place, for one list and for two
--     coefficient-check, coefficients-check
--                               they pass exactly where every coefficient is below p
--     coefficient-gives, coefficients-gives
--                               they give no other number
--     ChecksCoefficients p xs ys r
--                               the promise of check_coefficients; check-coefficients-once: it allows one answer only
--     NoneAbove most xs         no coefficient is above most
--     none-above-more, none-above-all
--                               a loop that looks for the largest: its turn, and its end
use Rattle.std.specs.Prelude.{ℕ, ◌+◌, ◌≤◌, ◌<◌, ◌≡◌, refl, Bool, true, false, List, [], ◌∷◌, ◌↔◌, leb, ltb, length, Option, Result}
use Rattle.std.proofs.Common.{zero-le, sym, ◌∙◌, le_trans, arith, leb-false, le-ltb, ltb-true, ltb-false}
use Rattle.std.proofs.Math.Decide.{dec_lt}
use Rattle.std.proofs.lemmas.Bool.{lt-leb}
use Rattle.polynomials.specs.Indices.{pick, first, found, some}
use Rattle.polynomials.specs.IndexLaws.{first-none}
use Rattle.polynomials.specs.Lists.{coefficient, Below}
use Rattle.polynomials.specs.ListLaws.{coefficient-past}
use Rattle.settings.specs.Answers.{Verdict, fine, refuse, Given}
use Rattle.settings.specs.AnswerLaws.{passed-last, given-check}
use Rattle.settings.specs.Refusals.{says, says-once}
use Rattle.settings.specs.declared.refusals.Refusal.{Refusal}

abbrev pub too_large : ℕ → List ℕ → ℕ → Bool
too_large p xs i = leb p (coefficient xs i)

abbrev pub first_bad : ℕ → List ℕ → ℕ
first_bad p xs = first (too_large p xs) (length xs) 0

abbrev pub FindsBad : ℕ → List ℕ → Option ℕ → Type 0
FindsBad p xs r = r ≡ found (first_bad p xs) (length xs)

pub first-bad-once : (p : ℕ) (xs : List ℕ) (a b : Option ℕ) → FindsBad p xs a → FindsBad p xs b → a ≡ b
first-bad-once p xs a b ha hb = ha ∙ sym hb

pub record NoneAbove (most : ℕ) (xs : List ℕ) : Type 0 where
  pub each : (j : ℕ) → coefficient xs j ≤ most

pub none-above-more : (xs : List ℕ) (i most next : ℕ) → ((j : ℕ) → j < i → coefficient xs j ≤ most) → most ≤ next → coefficient xs i ≤ next
    → (j : ℕ) → j < i + 1 → coefficient xs j ≤ next
none-above-more xs i most next before more here j h = go (dec_lt j i)
  where
    go : Dec (j < i) → coefficient xs j ≤ next
    go (yes l) = le_trans (before j l) more
    go (no l) = let last : j ≡ i = omega arith in rw last here

pub none-above-all : (xs : List ℕ) (i most : ℕ) → length xs ≤ i → ((j : ℕ) → j < i → coefficient xs j ≤ most) → NoneAbove most xs
none-above-all xs i most through each = record { each = λ j. go j (dec_lt j i) }
  where
    go : (j : ℕ) → Dec (j < i) → coefficient xs j ≤ most
    go j (yes l) = each j l
    go j (no l) = rw (coefficient-past xs j (omega arith)) zero-le

abbrev pub first_bad_of_two : ℕ → List ℕ → List ℕ → ℕ
first_bad_of_two p xs ys = pick (ltb (first_bad p xs) (length xs)) (first_bad p xs) (length xs + first_bad p ys)

abbrev pub coefficient_check : ℕ → List ℕ → Verdict
coefficient_check p xs = refuse (some (too_large p xs) (length xs)) 8 (first_bad p xs)

abbrev pub coefficients_check : ℕ → List ℕ → List ℕ → Verdict
coefficients_check p xs ys = refuse (ltb (first_bad_of_two p xs ys) (length xs + length ys)) 8 (first_bad_of_two p xs ys)

pub coefficient-gives : (p : ℕ) (xs : List ℕ) → Given (8 ∷ []) (coefficient_check p xs)
coefficient-gives p xs = given-check (some (too_large p xs) (length xs)) 8 (first_bad p xs)

pub coefficients-gives : (p : ℕ) (xs ys : List ℕ) → Given (8 ∷ []) (coefficients_check p xs ys)
coefficients-gives p xs ys = given-check (ltb (first_bad_of_two p xs ys) (length xs + length ys)) 8 (first_bad_of_two p xs ys)

abbrev pub ChecksCoefficients : ℕ → List ℕ → List ℕ → Result (Unit {0}) Refusal → Type 0
ChecksCoefficients p xs ys r = says r ≡ coefficients_check p xs ys

pub check-coefficients-once : (p : ℕ) (xs ys : List ℕ) (a b : Result (Unit {0}) Refusal) → ChecksCoefficients p xs ys a → ChecksCoefficients p xs ys b → a ≡ b
check-coefficients-once p xs ys a b = says-once a b (coefficients_check p xs ys)

-- no index is bad exactly where every coefficient is below p, also the zeros past the end
none-bad : (p : ℕ) (xs : List ℕ) → 0 < p → (length xs ≤ first_bad p xs) ↔ Below p xs
none-bad p xs hp = (
  λ h j. go ((first-none (too_large p xs) (length xs)).0 h) j (dec_lt j (length xs)),
  λ b. (first-none (too_large p xs) (length xs)).1 (λ j l. lt-leb p (coefficient xs j) (b j)),
)
  where
    go : ((j : ℕ) → j < length xs → too_large p xs j ≡ false) → (j : ℕ) → Dec (j < length xs) → coefficient xs j < p
    go none j (yes l) = leb-false p (coefficient xs j) (none j l)
    go none j (no l) = rw (coefficient-past xs j (omega arith)) hp

pub coefficient-check : (p : ℕ) (xs : List ℕ) → 0 < p → (coefficient_check p xs ≡ fine) ↔ Below p xs
coefficient-check p xs hp = (
  λ e. (none-bad p xs hp).0 (ltb-false (first_bad p xs) (length xs) (passed-last (ltb (first_bad p xs) (length xs)) 8 (first_bad p xs) e)),
  λ h. rw (le-ltb (first_bad p xs) (length xs) ((none-bad p xs hp).1 h)),
)

two_none : (p : ℕ) (xs ys : List ℕ) (in_first : Bool) → ltb (first_bad p xs) (length xs) ≡ in_first → length xs + length ys ≤ pick in_first (first_bad p xs) (length xs + first_bad p ys)
    → (length xs ≤ first_bad p xs) × (length ys ≤ first_bad p ys)
two_none p xs ys true e h = let bad = ltb-true (first_bad p xs) (length xs) e in absurd (omega arith)
two_none p xs ys false e h = (ltb-false (first_bad p xs) (length xs) e, omega arith)

pub coefficients-check : (p : ℕ) (xs ys : List ℕ) → 0 < p → (coefficients_check p xs ys ≡ fine) ↔ (Below p xs × Below p ys)
coefficients-check p xs ys hp = (
  λ e. let none = two_none p xs ys (ltb (first_bad p xs) (length xs)) refl (ltb-false (first_bad_of_two p xs ys) (length xs + length ys) (passed-last (ltb (first_bad_of_two p xs ys) (length xs + length ys)) 8 (first_bad_of_two p xs ys) e)) in
      ((none-bad p xs hp).0 none.0, (none-bad p ys hp).0 none.1),
  λ h. let good : ltb (first_bad p xs) (length xs) ≡ false = le-ltb (first_bad p xs) (length xs) ((none-bad p xs hp).1 h.0) in
      rw (good, le-ltb (length xs + first_bad p ys) (length xs + length ys) (omega (arith, (none-bad p ys hp).1 h.1))),
)
