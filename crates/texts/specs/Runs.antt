-- What the loops that read numbers work on. Definitions only.
--     RunAt cs i value end        the digits from place i on end at place end, and the number is value
--     NumberSays                  what looking at one number promises: the run, and that it is not above most; or that it is
--     Clean most room cs          nothing in the text is bad
--     NumbersStand ns old after         the numbers stand in the list, and then what stood there
use Rattle.std.specs.Prelude.{ℕ, ◌≤◌, ◌<◌, ◌≡◌, true, false, List, ◌∷◌, ◌++◌, length, drop, Option, Some, None}
use Rattle.polynomials.specs.Lists.{coefficient}
use Rattle.layout.specs.Decimals.{is_digit, numbers_in}
use Rattle.texts.specs.Reading.{number_from, bad_at}
use Rattle.texts.specs.declared.reading.Run.{Run}

pub record RunAt (cs : List ℕ) (i value end : ℕ) : Type 0 where
  pub after : i < end
  pub inside : end ≤ length cs
  pub all : (j : ℕ) → i ≤ j → j < end → is_digit (coefficient cs j) ≡ true
  pub stops : end < length cs → is_digit (coefficient cs end) ≡ false
  pub rest : numbers_in (drop i cs) ≡ value ∷ numbers_in (drop end cs)

abbrev pub NumberSays : ℕ → List ℕ → ℕ → Option Run → Type 0
NumberSays most cs i (Some x) = RunAt cs i x.value x.end × (x.value ≤ most)
NumberSays most cs i None = most < number_from cs i

abbrev pub Clean : ℕ → ℕ → List ℕ → Type 0
Clean most room cs = (j : ℕ) → j < length cs → bad_at most room cs j ≡ false

abbrev pub NumbersStand : List ℕ → List ℕ → List ℕ → Type 0
NumbersStand ns old after = after ≡ ns ++ drop (length ns) old
