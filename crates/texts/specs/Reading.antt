-- Numbers that are read from a text of digits and blanks. Definitions only; `layout` says which numbers stand in a text (numbers_in).
--     stray_at cs i                 what stands at place i is neither a digit nor a blank
--     follows_digit cs i            a digit stands right before place i
--     begins_at cs i                a number begins at place i: a digit that follows none
--     number_from cs i              the first number from place i on
--     numbers_before cs i           how many numbers stand before place i: all of them, less those from there on
--     large_at most cs i            a number begins there that is above most
--     many_at room cs i             a number begins there, and as many as there is room for stand before it
--     bad_at most room cs i         one of the three
--     outcome most room cs         the lowest bad place and what is bad there: stray, else too large, else too many; or how many numbers there are
--     left_of r ns old              what is left of a list that was lent for them: the numbers and what stood after, or the list as it was
--     ReadsNumbers                 what reading promises
--     read-once                    it allows one answer and one list
use Rattle.std.specs.Prelude.{ℕ, zero, suc, ◌-◌, ◌≡◌, Bool, false, not, ◌||◌, ◌&&◌, List, ◌++◌, Result, Ok, Err, leb, ltb, length, drop}
use Rattle.std.proofs.Common.{sym, ◌∙◌}
use Rattle.polynomials.specs.Indices.{pick, first}
use Rattle.polynomials.specs.Lists.{coefficient}
use Rattle.layout.specs.Decimals.{is_digit, numbers_in}
use Rattle.texts.specs.Kinds.{is_blank}
use Rattle.texts.specs.declared.reading.Stop.{Stop}
use Rattle.texts.specs.declared.reading.Stop.TheVariants.{Stray, Large, Many}

abbrev pub stray_at : List ℕ → ℕ → Bool
stray_at cs i = not (is_blank (coefficient cs i) || is_digit (coefficient cs i))

abbrev pub follows_digit : List ℕ → ℕ → Bool
follows_digit cs zero = false
follows_digit cs (suc i) = is_digit (coefficient cs i)

abbrev pub begins_at : List ℕ → ℕ → Bool
begins_at cs i = is_digit (coefficient cs i) && not (follows_digit cs i)

abbrev pub number_from : List ℕ → ℕ → ℕ
number_from cs i = coefficient (numbers_in (drop i cs)) 0

abbrev pub numbers_before : List ℕ → ℕ → ℕ
numbers_before cs i = length (numbers_in cs) - length (numbers_in (drop i cs))

abbrev pub large_at : ℕ → List ℕ → ℕ → Bool
large_at most cs i = begins_at cs i && ltb most (number_from cs i)

abbrev pub many_at : ℕ → List ℕ → ℕ → Bool
many_at room cs i = begins_at cs i && leb room (numbers_before cs i)

unfoldable pub bad_at : ℕ → ℕ → List ℕ → ℕ → Bool
bad_at most room cs i = stray_at cs i || (large_at most cs i || many_at room cs i)

unfoldable pub outcome_at : ℕ → ℕ → List ℕ → ℕ → Result ℕ Stop
outcome_at most room cs i =
    pick (ltb i (length cs)) (Err (pick (stray_at cs i) (Stray i) (pick (large_at most cs i) (Large i) (Many i)))) (Ok (length (numbers_in cs)))

unfoldable pub outcome : ℕ → ℕ → List ℕ → Result ℕ Stop
outcome most room cs = outcome_at most room cs (first (bad_at most room cs) (length cs) 0)

abbrev pub left_of : Result ℕ Stop → List ℕ → List ℕ → List ℕ
left_of (Ok n) ns old = ns ++ drop (length ns) old
left_of (Err why) ns old = old

pub record ReadsNumbers (most : ℕ) (cs old : List ℕ) (r : Result ℕ Stop) (after : List ℕ) : Type 0 where
  pub answer : r ≡ outcome most (length old) cs
  pub list : after ≡ left_of (outcome most (length old) cs) (numbers_in cs) old

pub read-once : (most : ℕ) (cs old : List ℕ) (r s : Result ℕ Stop) (after other : List ℕ) → ReadsNumbers most cs old r after → ReadsNumbers most cs old s other
    → (r ≡ s) × (after ≡ other)
read-once most cs old r s after other a b = (a.answer ∙ sym b.answer, a.list ∙ sym b.list)
