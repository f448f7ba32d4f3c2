-- Laws of reversed lists, the highest coefficient first. Assumes nothing.
--     coefficient-reverse   place j of a reversed list is place j of the list, counted from its end
--     reverse-list          a reversed list by these
--     reverse-below         a list below c, reversed, is below c
use Rattle.std.specs.Prelude.{ℕ, suc, ◌-◌, ◌<◌, ◌≡◌, length}
use Rattle.std.proofs.Common.{sym, ◌∙◌, not-suc-le-zero, arith}
use mathlib.Core.List.{List, [], ◌∷◌, ◌++◌, reverse, reverse-cons}
use Rattle.std.proofs.Math.Decide.{dec_lt}
use Rattle.std.proofs.lemmas.List.{length-reverse, get_or_at}
use Rattle.std.proofs.Math.ListN.{get_or-append}
use Rattle.polynomials.specs.Indices.{upto}
use Rattle.polynomials.specs.Lists.{coefficient, Below}
use Rattle.polynomials.specs.IndexLaws.{length-upto, upto-at}
use Rattle.polynomials.specs.ListLaws.{lists_agree, coefficient-past}

pub coefficient-reverse : (xs : List ℕ) (j : ℕ) → j < length xs → coefficient (reverse xs) j ≡ coefficient xs (length xs - 1 - j)
coefficient-reverse [] j h = absurd (not-suc-le-zero h)
coefficient-reverse (x ∷ xs) j h = rw (reverse-cons x xs) (go (coefficient-reverse xs j) (dec_lt j (length xs)))
  where
    go : (j < length xs → coefficient (reverse xs) j ≡ coefficient xs (length xs - 1 - j)) → Dec (j < length xs)
        → coefficient (reverse xs ++ (x ∷ [])) j ≡ coefficient (x ∷ xs) (suc (length xs) - 1 - j)
    go rest (yes l) =
        let there : suc (length xs) - 1 - j ≡ suc (length xs - 1 - j) = omega arith in
        rw there (get_or-append (reverse xs) (x ∷ []) 0 j (rw length-reverse l) ∙ rest l)
    go rest (no l) =
        let there : suc (length xs) - 1 - j ≡ 0 = omega arith in
        rw there (get_or_at (reverse xs) x [] 0 j (length-reverse xs ∙ omega arith))

pub reverse-list : (xs : List ℕ) → reverse xs ≡ upto (length xs) (λ j. coefficient xs (length xs - 1 - j))
reverse-list xs =
    let f : ℕ → ℕ = λ j. coefficient xs (length xs - 1 - j) in
    lists_agree (reverse xs) (upto (length xs) f) (rw (length-reverse, length-upto))
    (λ j l. let within : j < length xs = rw length-reverse at l in coefficient-reverse xs j within ∙ sym (upto-at (length xs) f j within))

pub reverse-below : (c : ℕ) (xs : List ℕ) → Below c xs → Below c (reverse xs)
reverse-below c xs h j = go (dec_lt j (length xs))
  where
    go : Dec (j < length xs) → coefficient (reverse xs) j < c
    go (yes l) = rw (coefficient-reverse xs j l) (h (length xs - 1 - j))
    go (no l) =
        let past : coefficient (reverse xs) j ≡ 0 = coefficient-past (reverse xs) j (rw length-reverse (omega arith)) in
        omega (arith, h j)
