-- Where the lane answers: exactly where none of its causes holds, in words. Assumes nothing.
--     lane-exactly                   make refuses nothing exactly for settings that 1 to 6 leave whose words have fewer than 53 bits
--     sum-exactly                    sum refuses nothing exactly where the record is not 12 and the lists are at most n whole pairs below p
--     ProperWord s x                 x is the double of a whole number below 2^((2k-1)t)
--     improper-exactly               11 is not given exactly for these doubles
--     reduce-exactly                 so reduce refuses nothing exactly where the record is not 12 and the double is such a word
--     made_held                      a record that make made is not 12
--     held-sum-gives, held-reduce-gives
--                                    the numbers that sum and reduce can give for a record that is not 12
--     make-answers, sum-answers, reduce-answers
--                                    and then the promises leave one answer, which is no refusal
use Rattle.std.specs.Prelude.{◌≡◌, ℕ, ◌/◌, ◌^◌, ◌<◌, false, not, T, ◌↔◌, List, [], ◌∷◌, length, pos, nat_le, refl, Float, Result, Ok}
use Rattle.std.proofs.Common.{sym, arith, le-ltb, leb-false}
use Rattle.std.specs.Float.{binary64}
use Rattle.std.specs.Float.Ieee.{fits}
use Rattle.std.specs.Float.Ieee.Fits.{of_int-fits, div-fits}
use Rattle.std.proofs.lemmas.Bool.{lt-leb, not-false}
use Rattle.polynomials.specs.Tests.{neither}
use Rattle.doubles.specs.Whole.{double, whole_part, is_whole, Held}
use Rattle.doubles.specs.Exactly.{held_number, held_whole, whole-held}
use Rattle.settings.specs.Answers.{answered, fine, refuse, Given}
use Rattle.settings.specs.AnswerLaws.{passed, passed_first, passed-last, given-check, given-then}
use Rattle.settings.specs.Settings.{setting_checks, base, span_of}
use Rattle.settings.specs.Bounds.{Rows, rows-exactly}
use Rattle.settings.specs.Coefficients.{coefficients-check, coefficients-gives}
use Rattle.packed.specs.Running.{pairs_cause}
use Rattle.packed.specs.RunningChecks.{pairs-shape}
use Rattle.words.specs.Places.{reduced_word}
use Rattle.settings.specs.declared.setting.Setting.{Setting}
use Rattle.lane.specs.Lanes.{lane_bits, lane_cause, make_checks, lane_of, held_cause, lane_full_cause, improper_cause, lane_sum_checks, sum_word, reduce_checks, Makes, make-once, LaneSums, sum-once, LaneReduces, reduce-once}
use Rattle.lane.specs.LaneLaws.{LaneBounds, Doubles, held-within, held-is, word_small}
use Rattle.lane.specs.SumLaws.{Listed, listed}
use Rattle.lane.specs.declared.Lane.{Lane}
use Rattle.settings.specs.declared.refusals.Refusal.{Refusal}

-- ---- make

pub lane-exactly : (s : Setting) → (make_checks s ≡ fine) ↔ (Rows s × (span_of s < lane_bits))
unfolding make_checks
lane-exactly s = (
  λ e. let a = passed_first (setting_checks s) (refuse (lane_cause s) 16 0) tt e in
      ((rows-exactly s).0 a.0, leb-false lane_bits (span_of s) (passed-last (lane_cause s) 16 0 a.1)),
  λ h. rw ((rows-exactly s).1 h.0, lt-leb lane_bits (span_of s) h.1),
)

pub make-answers : (s : Setting) (r : Result Lane Refusal) → Rows s → span_of s < lane_bits → Makes s r → r ≡ Ok (lane_of s)
make-answers s r rows short promise = make-once s r (Ok (lane_of s)) promise (rw ((lane-exactly s).1 (rows, short)))

pub made_held : (s : Setting) (l : Lane) → Makes s (Ok l) → held_cause l ≡ false
made_held s l promise =
    let a = passed_first (make_checks s) (answered (lane_of s)) l (sym promise) in
    let is : lane_of s ≡ l = let e = a.1 in cc in
    let doubles : Doubles (lane_of s) = record { modulus = of_int-fits binary64 (pos s.p); base = of_int-fits binary64 (pos (base s)); inverse = div-fits binary64 (double 1) (double s.p) } in
    rw (← is) ((held-is (lane_of s) doubles).1 (a.0, refl))

-- ---- sum

pub sum-exactly : (l : Lane) (xs ys : List ℕ) → (lane_sum_checks l xs ys ≡ fine) ↔ ((held_cause l ≡ false) × Listed l.setting xs ys)
unfolding lane_sum_checks
sum-exactly l xs ys = (
  λ e. ((passed (held_cause l) 12 0 _ tt e).0, listed l xs ys e),
  λ h. let s = l.setting in
      let lists = h.1 in
      rw (
        h.0,
        (pairs-shape s.k (length xs) (length ys)).1 (lists.same_size, lists.whole),
        le-ltb s.n (length xs / s.k) lists.few,
        (coefficients-check s.p xs ys (omega (arith, lists.within.bounded.range.choice.p_low))).1 (lists.left_below, lists.right_below),
      ),
)

pub held-sum-gives : (l : Lane) (xs ys : List ℕ) → held_cause l ≡ false → Given (9 ∷ 13 ∷ 8 ∷ []) (lane_sum_checks l xs ys)
unfolding lane_sum_checks
held-sum-gives l xs ys held =
    rw held
    (given-then (given-check (pairs_cause l.setting.k (length xs) (length ys)) 9 0)
    (given-then (given-check (lane_full_cause l.setting.n (length xs / l.setting.k)) 13 0) (coefficients-gives l.setting.p xs ys)))

pub sum-answers : (l : Lane) (xs ys : List ℕ) (r : Result Float Refusal) → held_cause l ≡ false → Listed l.setting xs ys → LaneSums l xs ys r → r ≡ Ok (double (sum_word l.setting xs ys))
sum-answers l xs ys r held lists promise = sum-once l xs ys r (Ok (double (sum_word l.setting xs ys))) promise (rw ((sum-exactly l xs ys).1 (held, lists)))

-- ---- reduce

pub record ProperWord (s : Setting) (x : Float) : Type 0 where
  pub whole : ℕ
  pub is : x ≡ double whole
  pub below : whole < 2 ^ span_of s

module _ (s : Setting) (b : LaneBounds s) (x : Float) (f : T (fits binary64 x)) where
  pub improper-exactly : (improper_cause s x ≡ false) ↔ ProperWord s x
  improper-exactly = (
    λ e. let both = neither (not (is_whole x)) (nat_le (2 ^ span_of s) (whole_part x)) e in
        let below : whole_part x < 2 ^ span_of s = leb-false (2 ^ span_of s) (whole_part x) both.1 in
        let kept = whole-held x f (not-false (is_whole x) both.0) (omega (arith, word_small b (whole_part x) below)) in
        record { whole = whole_part x; is = kept.is; below = below },
    λ h. let kept : Held x h.whole = record { is = h.is; below = omega (arith, word_small b h.whole h.below) } in
        let below : whole_part x < 2 ^ span_of s = rw (held_number kept) h.below in
        rw (held_whole kept, lt-leb (2 ^ span_of s) (whole_part x) below),
  )

pub held-reduce-gives : (l : Lane) (x : Float) → held_cause l ≡ false → Given (11 ∷ []) (reduce_checks l x)
unfolding reduce_checks
held-reduce-gives l x held = rw held (given-check (improper_cause l.setting x) 11 0)

module _ (l : Lane) (x : Float) (f : T (fits binary64 x)) where
  pub reduce-exactly : (reduce_checks l x ≡ fine) ↔ ((held_cause l ≡ false) × ProperWord l.setting x)
  unfolding reduce_checks
  reduce-exactly = (
    λ e. let a = passed (held_cause l) 12 0 (refuse (improper_cause l.setting x) 11 0) tt e in
        (a.0, (improper-exactly l.setting (held-within l a.0) x f).0 (passed-last (improper_cause l.setting x) 11 0 a.1)),
    λ h. rw (h.0, (improper-exactly l.setting (held-within l h.0) x f).1 h.1),
  )

  pub reduce-answers : (r : Result Float Refusal) → held_cause l ≡ false → ProperWord l.setting x → LaneReduces l x r → r ≡ Ok (double (reduced_word l.setting (whole_part x)))
  reduce-answers r held proper promise =
      reduce-once l x r (Ok (double (reduced_word l.setting (whole_part x)))) promise (rw (reduce-exactly.1 (held, proper)))
