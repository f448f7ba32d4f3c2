-- Numbers with one space before each: joined, and read back. Assumes nothing.
--     spaced-join     those of two lists, one after the other
--     read-spaced     before a byte that is no digit they are read as these numbers
--     read-list       and so they are at the end of a text
use Rattle.std.specs.Prelude.{ℕ, ◌≡◌, refl, false, List, [], ◌∷◌, ◌++◌}
use Rattle.std.proofs.Common.{ap, ◌∙◌, append-nil, append_assoc}
use Rattle.layout.specs.Decimals.{decimal, is_digit, numbers_in, reading-decimal, reading-last}
use Rattle.texts.specs.Putting.{space, spaced}

pub spaced-join : (xs ys : List ℕ) → spaced (xs ++ ys) ≡ spaced xs ++ spaced ys
spaced-join [] ys = refl
spaced-join (x ∷ xs) ys = rw (spaced-join xs ys, append_assoc)

pub read-spaced : (ns : List ℕ) (c : ℕ) (rest : List ℕ) → is_digit c ≡ false → numbers_in (spaced ns ++ (c ∷ rest)) ≡ ns ++ numbers_in rest
read-spaced [] c rest h = rw h
read-spaced (n ∷ []) c rest h = ap (λ (cs : List ℕ). numbers_in (cs ++ (c ∷ rest))) (append-nil (decimal n)) ∙ reading-decimal n c rest h
read-spaced (n ∷ m ∷ ns) c rest h =
    ap numbers_in (append_assoc (decimal n) (spaced (m ∷ ns)) (c ∷ rest))
    ∙ reading-decimal n space ((decimal m ++ spaced ns) ++ (c ∷ rest)) refl
    ∙ ap (λ (xs : List ℕ). n ∷ xs) (read-spaced (m ∷ ns) c rest h)

pub read-list : (ns : List ℕ) → numbers_in (spaced ns) ≡ ns
read-list [] = refl
read-list (n ∷ []) = ap numbers_in (append-nil (decimal n)) ∙ reading-last n
read-list (n ∷ m ∷ ns) = reading-decimal n space (decimal m ++ spaced ns) refl ∙ ap (λ (xs : List ℕ). n ∷ xs) (read-list (m ∷ ns))
