-- What reading answers, from its definition alone. Assumes nothing.
--     read-clean                   a text of digits and blanks whose numbers are none too large and not too many is read whole
--     read-back                    so are numbers that were put with a space before each
--     read-back-promise            and they then stand in the list that was lent
--     stray-stops, stray-inside    reading stops for a stray byte at a place of the text where one stands,
--     large-stops                  for a number that is too large where one begins,
--     many-stops                   for want of room where a number begins before which as many stand as there is room for,
--     counted-all                  and where it counts it counts all numbers
use Rattle.std.specs.Prelude.{ℕ, zero, suc, ◌+◌, ◌-◌, ◌*◌, ◌≤◌, ◌<◌, ◌≡◌, refl, Bool, true, false, not, ◌||◌, ◌&&◌, List, [], ◌∷◌, ◌++◌, leb, ltb, length, take, drop, Result, Ok, Err}
use Rattle.std.proofs.Common.{ap, ◌∙◌, arith, length-append, drop-cons, ltb-true, leb-true, le-ltb}
use Rattle.std.proofs.Math.Bool.{and-eq-true_iff}
use Rattle.std.proofs.lemmas.Bool.{not-true, lt-leb}
use Rattle.polynomials.specs.Indices.{pick, first}
use Rattle.polynomials.specs.IndexLaws.{first-is, first-none}
use Rattle.polynomials.specs.Lists.{coefficient}
use Rattle.polynomials.specs.ListLaws.{coefficient-after}
use Rattle.layout.specs.Decimals.{is_digit, reading, numbers_in, decimal, decimal-byte, length-decimal}
use Rattle.texts.specs.KindLaws.{digit-no-blank}
use Rattle.texts.specs.Putting.{spaced}
use Rattle.texts.specs.Reading.{stray_at, follows_digit, begins_at, number_from, numbers_before, large_at, many_at, bad_at, outcome_at, outcome, ReadsNumbers}
use Rattle.texts.specs.SpacedLaws.{read-list}
use Rattle.texts.specs.declared.reading.Stop.{Stop}
use Rattle.texts.specs.declared.reading.Stop.TheVariants.{Stray, Large, Many}

-- ---- the numbers before a place and from there on

pick-join : (d : Bool) (xs ys rest : List ℕ) → pick d xs ys ++ rest ≡ pick d (xs ++ rest) (ys ++ rest)
pick-join true xs ys rest = refl
pick-join false xs ys rest = refl

-- a run ends at a byte that is no digit
split_after : (b : Bool) (v : ℕ) (cs : List ℕ) (i : ℕ) → is_digit (coefficient cs i) ≡ false
    → reading b v cs ≡ reading b v (take (suc i) cs) ++ numbers_in (drop (suc i) cs)
split_after true v [] i h = refl
split_after false v [] i h = refl
split_after true v (c ∷ cs) zero h = rw h
split_after false v (c ∷ cs) zero h = rw h
split_after true v (c ∷ cs) (suc i) h = rw (split_after true (v * 10 + (c - 48)) cs i h, split_after false 0 cs i h, pick-join (is_digit c))
split_after false v (c ∷ cs) (suc i) h = rw (split_after true (c - 48) cs i h, split_after false 0 cs i h, pick-join (is_digit c))

split-begun : (cs : List ℕ) (i : ℕ) → follows_digit cs i ≡ false → numbers_in cs ≡ numbers_in (take i cs) ++ numbers_in (drop i cs)
split-begun cs zero h = refl
split-begun cs (suc i) h = split_after false 0 cs i h

-- a run of digits is a number
run-some : (v : ℕ) (cs : List ℕ) → 0 < length (reading true v cs)
run-some v [] = omega arith
run-some v (c ∷ cs) = go (is_digit c) (run-some (v * 10 + (c - 48)) cs)
  where
    go : (d : Bool) → 0 < length (reading true (v * 10 + (c - 48)) cs) → 0 < length (pick d (reading true (v * 10 + (c - 48)) cs) (v ∷ numbers_in cs))
    go true some = some
    go false some = omega arith

from_some : (cs : List ℕ) (i : ℕ) → i < length cs → is_digit (coefficient cs i) ≡ true → 0 < length (numbers_in (drop i cs))
from_some cs i h d = rw (drop-cons cs i 0 h, d) (run-some (coefficient cs i - 48) (drop (suc i) cs))

-- the first of some numbers that stand after others
first-after : (ns pre rest : List ℕ) → ns ≡ pre ++ rest → 0 < length rest
    → (length ns - length rest < length ns) × (coefficient ns (length ns - length rest) ≡ coefficient rest 0)
first-after ns pre rest e h =
    let place : length ns - length rest ≡ length pre = rw e (omega (arith, length-append pre rest)) in
    let none : length pre - length pre ≡ 0 = omega arith in
    (omega (arith, ap length e, length-append pre rest), rw (place, e, coefficient-after pre rest (length pre) (omega arith), none))

-- the number that begins at a place is the one after those that stand before it
begun-number : (cs : List ℕ) (i : ℕ) → i < length cs → begins_at cs i ≡ true
    → (numbers_before cs i < length (numbers_in cs)) × (coefficient (numbers_in cs) (numbers_before cs i) ≡ number_from cs i)
begun-number cs i h b =
    let both = (and-eq-true_iff (is_digit (coefficient cs i)) (not (follows_digit cs i))).0 b in
    first-after (numbers_in cs) (numbers_in (take i cs)) (numbers_in (drop i cs)) (split-begun cs i (not-true (follows_digit cs i) both.1))
    (from_some cs i h both.0)

-- ---- a text that is read whole

abbrev NoStray : List ℕ → Type 0
NoStray cs = (j : ℕ) → j < length cs → stray_at cs j ≡ false

nothing-bad : (most room : ℕ) (cs : List ℕ) → NoStray cs → ((j : ℕ) → j < length (numbers_in cs) → coefficient (numbers_in cs) j ≤ most)
    → length (numbers_in cs) ≤ room → (i : ℕ) → i < length cs → bad_at most room cs i ≡ false
unfolding bad_at
nothing-bad most room cs clean small fits i h = go (begins_at cs i) refl
  where
    go : (b : Bool) → begins_at cs i ≡ b → (stray_at cs i || ((b && ltb most (number_from cs i)) || (b && leb room (numbers_before cs i)))) ≡ false
    go false e = rw (clean i h)
    go true e =
        let number = begun-number cs i h e in
        let low : number_from cs i ≤ most = rw number.1 at (small (numbers_before cs i) number.0) in
        rw (clean i h, le-ltb most (number_from cs i) low, lt-leb room (numbers_before cs i) (omega (arith, number.0)))

pub read-clean : (most room : ℕ) (cs : List ℕ) → ((j : ℕ) → j < length cs → stray_at cs j ≡ false)
    → ((j : ℕ) → j < length (numbers_in cs) → coefficient (numbers_in cs) j ≤ most) → length (numbers_in cs) ≤ room
    → outcome most room cs ≡ Ok (length (numbers_in cs))
unfolding outcome outcome_at
read-clean most room cs clean small fits =
    let through = (first-none (bad_at most room cs) (length cs)).1 (nothing-bad most room cs clean small fits) in
    rw (le-ltb (first (bad_at most room cs) (length cs) 0) (length cs) through)

-- ---- numbers that were put

join-clean : (xs ys : List ℕ) → NoStray xs → NoStray ys → NoStray (xs ++ ys)
join-clean [] ys a b j h = b j h
join-clean (x ∷ xs) ys a b zero h = a 0 (omega arith)
join-clean (x ∷ xs) ys a b (suc j) h = join-clean xs ys (λ i l. a (suc i) (omega arith)) b j (omega arith)

decimal-clean : (n : ℕ) → NoStray (decimal n)
decimal-clean n j h =
    let d = decimal-byte n j (omega (arith, length-decimal n)) in
    rw (digit-no-blank (coefficient (decimal n) j) d, d)

spaced-clean : (ns : List ℕ) → NoStray (spaced ns)
spaced-clean [] j h = absurd (omega arith)
spaced-clean (n ∷ ns) zero h = refl
spaced-clean (n ∷ ns) (suc j) h = join-clean (decimal n) (spaced ns) (decimal-clean n) (spaced-clean ns) j (omega arith)

pub read_back : (most room : ℕ) (ns : List ℕ) → ((j : ℕ) → j < length ns → coefficient ns j ≤ most) → length ns ≤ room
    → outcome most room (spaced ns) ≡ Ok (length ns)
read_back most room ns small fits =
    rw (read-list ns) at (read-clean most room (spaced ns) (spaced-clean ns) (rw (read-list ns) small) (rw (read-list ns) fits))

pub read-back-promise : (most : ℕ) (ns old : List ℕ) (r : Result ℕ Stop) (after : List ℕ) → ((j : ℕ) → j < length ns → coefficient ns j ≤ most)
    → length ns ≤ length old → ReadsNumbers most (spaced ns) old r after → (r ≡ Ok (length ns)) × (after ≡ ns ++ drop (length ns) old)
read-back-promise most ns old r after small fits h =
    let back = read_back most (length old) ns small fits in
    (h.answer ∙ back, rw (back, read-list ns) at h.list)

-- ---- what each answer is given for

abbrev Cause : ℕ → ℕ → List ℕ → Result ℕ Stop → Type 0
Cause most room cs (Ok n) = n ≡ length (numbers_in cs)
Cause most room cs (Err (Stray i)) = (i < length cs) × (stray_at cs i ≡ true)
Cause most room cs (Err (Large i)) = (begins_at cs i ≡ true) × (most < number_from cs i)
Cause most room cs (Err (Many i)) = (begins_at cs i ≡ true) × (room ≤ numbers_before cs i)

caused : (most room : ℕ) (cs : List ℕ) → Cause most room cs (outcome most room cs)
unfolding outcome outcome_at bad_at
caused most room cs = go (ltb bad (length cs)) (stray_at cs bad) (large_at most cs bad) refl refl refl
  where
    bad : ℕ
    bad = first (bad_at most room cs) (length cs) 0

    holds : bad < length cs → bad_at most room cs bad ≡ true
    holds l = (first-is (bad_at most room cs) (length cs) 0).holds (omega arith)

    go : (inside stray large : Bool) → ltb bad (length cs) ≡ inside → stray_at cs bad ≡ stray → large_at most cs bad ≡ large
        → Cause most room cs (pick inside (Err (pick stray (Stray bad) (pick large (Large bad) (Many bad)))) (Ok (length (numbers_in cs))))
    go false stray large l s g = refl
    go true true large l s g = (ltb-true bad (length cs) l, s)
    go true false true l s g =
        let both = (and-eq-true_iff (begins_at cs bad) (ltb most (number_from cs bad))).0 g in
        (both.0, ltb-true most (number_from cs bad) both.1)
    go true false false l s g =
        let many : many_at room cs bad ≡ true = rw (s, g) at (holds (ltb-true bad (length cs) l)) in
        let both = (and-eq-true_iff (begins_at cs bad) (leb room (numbers_before cs bad))).0 many in
        (both.0, leb-true room (numbers_before cs bad) both.1)

pub stray-stops : (most room : ℕ) (cs : List ℕ) (i : ℕ) → outcome most room cs ≡ Err (Stray i) → stray_at cs i ≡ true
stray-stops most room cs i e = (rw e at (caused most room cs)).1

pub stray-inside : (most room : ℕ) (cs : List ℕ) (i : ℕ) → outcome most room cs ≡ Err (Stray i) → i < length cs
stray-inside most room cs i e = (rw e at (caused most room cs)).0

pub large-stops : (most room : ℕ) (cs : List ℕ) (i : ℕ) → outcome most room cs ≡ Err (Large i) → (begins_at cs i ≡ true) × (most < number_from cs i)
large-stops most room cs i e = rw e at (caused most room cs)

pub many-stops : (most room : ℕ) (cs : List ℕ) (i : ℕ) → outcome most room cs ≡ Err (Many i) → (begins_at cs i ≡ true) × (room ≤ numbers_before cs i)
many-stops most room cs i e = rw e at (caused most room cs)

pub counted-all : (most room : ℕ) (cs : List ℕ) (n : ℕ) → outcome most room cs ≡ Ok n → n ≡ length (numbers_in cs)
counted-all most room cs n e = rw e at (caused most room cs)
