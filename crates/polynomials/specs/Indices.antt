-- What runs over an index. Definitions only.
--     pick b x y        x if b is true, y if it is false
--     rounded_up m n     m / n, rounded up
--     sum_to n f         f 0 + .. + f (n - 1)
--     upto n f          the list f 0, .., f (n - 1)
--     filled n f old    that list, and then what stands in old from place n on: what a loop has made of old that writes f i at place i
--     first test n i    the first of the n numbers i, i + 1, .. at which the test holds, and i + n where it holds at none
--     First             that a number is that one, without saying how it is found
--     some test n       the test holds at one of the numbers 0, .., n - 1
--     found i n         an index i below n, as an option: none where it is n or more
--     above f most i    f i is above most i
--     exceeds n f most  so it is at one of the numbers 0, .., n - 1
use Rattle.std.specs.Prelude.{ℕ, zero, suc, ◌+◌, ◌-◌, ◌/◌, ◌≤◌, ◌<◌, ◌≡◌, Bool, true, false, List, [], ◌∷◌, ◌++◌, ltb, drop, Option, Some, None}

abbrev pub pick : {A : Type 0} → Bool → A → A → A
pick true x y = x
pick false x y = y

abbrev pub rounded_up : ℕ → ℕ → ℕ
rounded_up m n = (m + n - 1) / n

abbrev pub sum_to : ℕ → (ℕ → ℕ) → ℕ
sum_to zero f = 0
sum_to (suc n) f = sum_to n f + f n

abbrev pub upto : {A : Type 0} → ℕ → (ℕ → A) → List A
upto zero f = []
upto (suc n) f = upto n f ++ (f n ∷ [])

abbrev pub filled : {A : Type 0} → ℕ → (ℕ → A) → List A → List A
filled n f old = upto n f ++ drop n old

unfoldable pub first : (ℕ → Bool) → ℕ → ℕ → ℕ
first test zero i = i
first test (suc n) i = pick (test i) i (first test n (suc i))

pub record First (test : ℕ → Bool) (n i r : ℕ) : Type 0 where
  pub low : i ≤ r
  pub high : r ≤ i + n
  pub none_before : (j : ℕ) → i ≤ j → j < r → test j ≡ false
  pub holds : r < i + n → test r ≡ true

abbrev pub some : (ℕ → Bool) → ℕ → Bool
some test n = ltb (first test n 0) n

abbrev pub found : ℕ → ℕ → Option ℕ
found i n = pick (ltb i n) (Some i) None

abbrev pub above : (ℕ → ℕ) → (ℕ → ℕ) → ℕ → Bool
above f most i = ltb (most i) (f i)

abbrev pub exceeds : ℕ → (ℕ → ℕ) → (ℕ → ℕ) → Bool
exceeds n f most = some (above f most) n
