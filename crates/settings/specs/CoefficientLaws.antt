-- The place of 8. Assumes nothing.
--     BadAt p xs i           coefficient i is p or more, and none before it
--     coefficient-refused    8 has the place i exactly where this holds
--     coefficients-joined    8 in two lists is 8 in one list, the first and then the second: an index in the second has the first's length added
use Rattle.std.specs.Prelude.{ℕ, ◌+◌, ◌-◌, ◌≤◌, ◌<◌, ◌≡◌, refl, Bool, true, false, List, ◌++◌, ◌↔◌, ltb, length}
use Rattle.std.proofs.Common.{zero-le, ◌∙◌, arith, length-append, le-leb, leb-true, leb-false, ltb-true, ltb-false}
use Rattle.std.proofs.Math.Decide.{dec_lt}
use Rattle.std.proofs.Math.ListN.{get_or-append}
use Rattle.std.proofs.lemmas.Bool.{lt-leb}
use Rattle.polynomials.specs.Indices.{pick, First}
use Rattle.polynomials.specs.IndexLaws.{first-is, first-only}
use Rattle.polynomials.specs.Lists.{coefficient}
use Rattle.polynomials.specs.ListLaws.{coefficient-after}
use Rattle.settings.specs.Answers.{refused}
use Rattle.settings.specs.AnswerLaws.{refuse-first}
use Rattle.settings.specs.Coefficients.{too_large, first_bad, first_bad_of_two, coefficient_check, coefficients_check}

pub record BadAt (p : ℕ) (xs : List ℕ) (i : ℕ) : Type 0 where
  pub inside : i < length xs
  pub bad : p ≤ coefficient xs i
  pub none_before : (j : ℕ) → j < i → coefficient xs j < p

pub coefficient-refused : (p : ℕ) (xs : List ℕ) (i : ℕ) → (coefficient_check p xs ≡ refused 8 i) ↔ BadAt p xs i
coefficient-refused p xs i = (
  λ e. let h = (refuse-first (too_large p xs) (length xs) 8 i).0 e in
      record {
        inside = h.1;
        bad = leb-true p (coefficient xs i) (h.0.holds (omega (arith, h.1)));
        none_before = λ j l. leb-false p (coefficient xs j) (h.0.none_before j zero-le l);
      },
  λ h. (refuse-first (too_large p xs) (length xs) 8 i).1 (first-at h, h.inside),
)
  where
    first-at : BadAt p xs i → First (too_large p xs) (length xs) 0 i
    first-at h = record {
      low = zero-le;
      high = omega (arith, h.inside);
      none_before = λ j a l. lt-leb p (coefficient xs j) (h.none_before j l);
      holds = λ l. le-leb p (coefficient xs i) h.bad;
    }

-- the two lists, one after the other
module _ (p : ℕ) (xs ys : List ℕ) where
  abbrev joined : List ℕ
  joined = xs ++ ys

  size : length joined ≡ length xs + length ys
  size = length-append xs ys

  left : (j : ℕ) → j < length xs → too_large p joined j ≡ too_large p xs j
  left j l = rw (get_or-append xs ys 0 j l)

  right : (j : ℕ) → length xs ≤ j → too_large p joined j ≡ too_large p ys (j - length xs)
  right j l = rw (coefficient-after xs ys j l)

  found_left : First (too_large p xs) (length xs) 0 (first_bad p xs) → first_bad p xs < length xs → First (too_large p joined) (length joined) 0 (first_bad p xs)
  found_left f l = record {
    low = zero-le;
    high = rw size (omega (arith, f.high));
    none_before = λ j a b. left j (omega arith) ∙ f.none_before j a b;
    holds = λ a. left (first_bad p xs) l ∙ f.holds (omega arith);
  }

  found_right : First (too_large p xs) (length xs) 0 (first_bad p xs) → length xs ≤ first_bad p xs → First (too_large p ys) (length ys) 0 (first_bad p ys)
      → First (too_large p joined) (length joined) 0 (length xs + first_bad p ys)
  found_right f l g = record {
    low = zero-le;
    high = rw size (omega (arith, g.high));
    none_before = λ j a b. before j b (dec_lt j (length xs));
    holds = λ a.
        let at : length xs + first_bad p ys - length xs ≡ first_bad p ys = omega arith in
        right (length xs + first_bad p ys) (omega arith) ∙ rw at (g.holds (omega (arith, rw size at a)));
  }
    where
      before : (j : ℕ) → j < length xs + first_bad p ys → Dec (j < length xs) → too_large p joined j ≡ false
      before j b (yes h) = left j h ∙ f.none_before j zero-le (omega arith)
      before j b (no h) = right j (omega arith) ∙ g.none_before (j - length xs) zero-le (omega arith)

  same_place : first_bad_of_two p xs ys ≡ first_bad p joined
  same_place = go (ltb (first_bad p xs) (length xs)) refl
    where
      go : (b : Bool) → ltb (first_bad p xs) (length xs) ≡ b → pick b (first_bad p xs) (length xs + first_bad p ys) ≡ first_bad p joined
      go true e = first-only (too_large p joined) (length joined) 0 (first_bad p xs) (first_bad p joined) (found_left (first-is (too_large p xs) (length xs) 0) (ltb-true (first_bad p xs) (length xs) e)) (first-is (too_large p joined) (length joined) 0)
      go false e = first-only (too_large p joined) (length joined) 0 (length xs + first_bad p ys) (first_bad p joined) (found_right (first-is (too_large p xs) (length xs) 0) (ltb-false (first_bad p xs) (length xs) e) (first-is (too_large p ys) (length ys) 0)) (first-is (too_large p joined) (length joined) 0)

  pub coefficients-joined : coefficients_check p xs ys ≡ coefficient_check p joined
  coefficients-joined = rw (same_place, size)
