-- A search of a list, as the library has it, is the search of its indices. Assumes nothing.
--     first-position    the first index at which an element passes, or the length
--     found-position    the same as an option
--     some-any          an element passes exactly where there is such an index
use Rattle.std.specs.Prelude.{◌≡◌, refl, Bool, true, false, List, ltb, length, get_or, cond, Some, None}
use Rattle.std.specs.List.{position, position_or_len, list_any}
use Rattle.std.proofs.Common.{zero-le, arith, ltb-true}
use Rattle.std.proofs.lemmas.List.Sums.{position_or_len_is}
use Rattle.std.proofs.lemmas.List.Elements.{All-from_get_or}
use Rattle.std.proofs.lemmas.List.Folds.{list_any_at, list_any_none}
use Rattle.polynomials.specs.Indices.{pick, first, found, some}
use Rattle.polynomials.specs.IndexLaws.{first-is, some-none}

pub first-position : {X : Type 0} (p : X → Bool) (xs : List X) (d : X) → position_or_len p xs ≡ first (λ i. p (get_or xs i d)) (length xs) 0
first-position p xs d =
    let at = first-is (λ i. p (get_or xs i d)) (length xs) 0 in
    position_or_len_is p xs (first (λ i. p (get_or xs i d)) (length xs) 0) d (omega (arith, at.high)) (λ k l. at.none_before k zero-le l) (λ l. at.holds (omega arith))

pub found-position : {X : Type 0} (p : X → Bool) (xs : List X) (d : X) → position p xs ≡ found (first (λ i. p (get_or xs i d)) (length xs) 0) (length xs)
found-position p xs d = rw (← first-position p xs d) (same (ltb (position_or_len p xs) (length xs)))
  where
    same : (b : Bool) → cond b (Some (position_or_len p xs)) None ≡ pick b (Some (position_or_len p xs)) None
    same true = refl
    same false = refl

pub some-any : {X : Type 0} (p : X → Bool) (xs : List X) (d : X) → list_any p xs ≡ some (λ i. p (get_or xs i d)) (length xs)
some-any p xs d = go (some (λ i. p (get_or xs i d)) (length xs)) refl
  where
    go : (b : Bool) → some (λ i. p (get_or xs i d)) (length xs) ≡ b → list_any p xs ≡ b
    go true e =
        let l = ltb-true (first (λ i. p (get_or xs i d)) (length xs) 0) (length xs) e in
        list_any_at p xs (first (λ i. p (get_or xs i d)) (length xs) 0) d l ((first-is (λ i. p (get_or xs i d)) (length xs) 0).holds (omega arith))
    go false e = list_any_none p xs (All-from_get_or (λ x. p x ≡ false) xs d ((some-none (λ i. p (get_or xs i d)) (length xs)).0 e))
