-- "The double lane": make, sum, reduce. A lane record holds p, q and 1/p as doubles, beside the setting.
--     lane_cause s                  16 Lane: (2k-1) t >= 53, condition (2) of document 003 with a double's 53 bits
--     make_checks s                 the setting's checks, then 16
--     lane_of s                     the record that make makes: p and q, and what the division 1.0 / p gives
--     doubles_differ l m             one of the three doubles of two records differs in any bit
--     other_doubles l               one of a record's doubles differs in any bit from what make would hold
--     held_cause l                  12 Record: a record whose setting is refused or meets 16, or whose doubles are others
--     lane_full_cause n pairs        13 Full: more than n pairs
--     lane_sum_checks l xs ys        12, 9, 13, 8
--     sum_word s xs ys              the sum of products: the word of the schoolbook sums, unreduced
--     improper_cause s x            11 Word: x is no whole number from 0 to 2^((2k-1)t) - 1
--     reduce_checks l x             12, 11
--     make-gives, lane-sum-gives, lane-reduce-gives
--                                  the numbers that each of these lists of checks can give, and no other
--     Makes s r, LaneSums l xs ys r, LaneReduces l x r
--                                  the promises of make, sum and reduce
--     make-once, sum-once, reduce-once
--                                  each allows one answer only; two doubles are equal where they are the same bits, as same-bits of `doubles` says
use Rattle.std.specs.Prelude.{◌≡◌, ℕ, ◌/◌, ◌^◌, Bool, not, ◌||◌, List, [], ◌∷◌, ◌++◌, length, nat_le, nat_lt, Float, Result}
use Rattle.polynomials.specs.Lists.{sum_of_products}
use Rattle.polynomials.specs.Places.{packed}
use Rattle.doubles.specs.Whole.{double, whole_part, is_whole, inverse, differs_in_bits}
use Rattle.settings.specs.Answers.{answered, Verdict, refuse, refuses, ◌and_then◌, Given}
use Rattle.settings.specs.AnswerLaws.{given-check, given-then}
use Rattle.settings.specs.Settings.{setting_checks, setting_numbers, setting-gives, base, span_of}
use Rattle.settings.specs.Coefficients.{coefficients_check, coefficients-gives}
use Rattle.words.specs.Places.{reduced_word}
use Rattle.packed.specs.Running.{fed_pairs, pairs_cause}
use Rattle.settings.specs.declared.setting.Setting.{Setting}
use Rattle.lane.specs.declared.Lane.{Lane}
use Rattle.settings.specs.Refusals.{says, says-once}
use Rattle.settings.specs.declared.refusals.Refusal.{Refusal}

abbrev pub lane_bits : ℕ
lane_bits = 53

-- ---- make

abbrev pub lane_cause : Setting → Bool
lane_cause s = nat_le lane_bits (span_of s)

unfoldable pub make_checks : Setting → Verdict
make_checks s = setting_checks s and_then refuse (lane_cause s) 16 0

pub make-gives : (s : Setting) → Given (setting_numbers ++ (16 ∷ [])) (make_checks s)
unfolding make_checks
make-gives s = given-then (setting-gives s) (given-check (lane_cause s) 16 0)

abbrev pub lane_of : Setting → Lane
lane_of s = record { setting = s; p = double s.p; q = double (base s); inverse = inverse s.p }

abbrev pub Makes : Setting → Result Lane Refusal → Type 0
Makes s r = says r ≡ (make_checks s and_then answered (lane_of s))

pub make-once : (s : Setting) (a b : Result Lane Refusal) → Makes s a → Makes s b → a ≡ b
make-once s a b = says-once a b (make_checks s and_then answered (lane_of s))

-- ---- 12, 13, 11

abbrev pub doubles_differ : Lane → Lane → Bool
doubles_differ l made = differs_in_bits l.p made.p || (differs_in_bits l.q made.q || differs_in_bits l.inverse made.inverse)

abbrev pub other_doubles : Lane → Bool
other_doubles l = doubles_differ l (lane_of l.setting)

unfoldable pub held_cause : Lane → Bool
held_cause l = refuses (make_checks l.setting) || other_doubles l

abbrev pub lane_full_cause : ℕ → ℕ → Bool
lane_full_cause n pairs = nat_lt n pairs

abbrev pub improper_cause : Setting → Float → Bool
improper_cause s x = not (is_whole x) || nat_le (2 ^ span_of s) (whole_part x)

-- ---- sum

unfoldable pub lane_sum_checks : Lane → List ℕ → List ℕ → Verdict
lane_sum_checks l xs ys =
    refuse (held_cause l) 12 0
    and_then refuse (pairs_cause l.setting.k (length xs) (length ys)) 9 0
    and_then refuse (lane_full_cause l.setting.n (length xs / l.setting.k)) 13 0
    and_then coefficients_check l.setting.p xs ys

pub lane-sum-gives : (l : Lane) (xs ys : List ℕ) → Given (12 ∷ 9 ∷ 13 ∷ 8 ∷ []) (lane_sum_checks l xs ys)
unfolding lane_sum_checks
lane-sum-gives l xs ys =
    given-then (given-check (held_cause l) 12 0)
    (given-then (given-check (pairs_cause l.setting.k (length xs) (length ys)) 9 0)
    (given-then (given-check (lane_full_cause l.setting.n (length xs / l.setting.k)) 13 0) (coefficients-gives l.setting.p xs ys)))

abbrev pub sum_word : Setting → List ℕ → List ℕ → ℕ
sum_word s xs ys = packed (base s) (sum_of_products (fed_pairs s xs ys))

abbrev pub LaneSums : Lane → List ℕ → List ℕ → Result Float Refusal → Type 0
LaneSums l xs ys r = says r ≡ (lane_sum_checks l xs ys and_then answered (double (sum_word l.setting xs ys)))

pub sum-once : (l : Lane) (xs ys : List ℕ) (a b : Result Float Refusal) → LaneSums l xs ys a → LaneSums l xs ys b → a ≡ b
sum-once l xs ys a b = says-once a b (lane_sum_checks l xs ys and_then answered (double (sum_word l.setting xs ys)))

-- ---- reduce

unfoldable pub reduce_checks : Lane → Float → Verdict
reduce_checks l x = refuse (held_cause l) 12 0 and_then refuse (improper_cause l.setting x) 11 0

pub lane-reduce-gives : (l : Lane) (x : Float) → Given (12 ∷ 11 ∷ []) (reduce_checks l x)
unfolding reduce_checks
lane-reduce-gives l x = given-then (given-check (held_cause l) 12 0) (given-check (improper_cause l.setting x) 11 0)

abbrev pub LaneReduces : Lane → Float → Result Float Refusal → Type 0
LaneReduces l x r = says r ≡ (reduce_checks l x and_then answered (double (reduced_word l.setting (whole_part x))))

pub reduce-once : (l : Lane) (x : Float) (a b : Result Float Refusal) → LaneReduces l x a → LaneReduces l x b → a ≡ b
reduce-once l x a b = says-once a b (reduce_checks l x and_then answered (double (reduced_word l.setting (whole_part x))))
