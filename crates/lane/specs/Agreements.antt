-- What the crates above can rely on: the promises of sum and reduce, in the schoolbook's words and in those of the library. Assumes nothing.
--     SumAnswer s xs ys x     x holds the packed word of the schoolbook sums exactly, and its fields are their coefficients
--     sum-schoolbook          so it is with every word that a lane sum answers
--     sum-reduces             reduce takes it
--     reduced-holds, reduce-fields
--                             a word that reduce answers holds the reduced word exactly, and its fields are the old ones modulo p
--     reduce-agrees           it is the word that the library's reduce answers of the same number
--     sum-reduced             sum, then reduce: the fields are the schoolbook sums modulo p
use Rattle.std.proofs.lemmas.Bool.{lt-leb}
use Rattle.std.specs.Prelude.{◌≡◌, ℕ, ◌%◌, ◌^◌, ◌<◌, ◌≤◌, false, not, List, nat_le, Float, Result, Ok}
use Rattle.std.proofs.Common.{sym, ap, ◌∙◌, arith, pow_pos, leb-false}
use Rattle.polynomials.specs.Tests.{neither}
use Rattle.polynomials.specs.Lists.{coefficient, sum_of_products}
use Rattle.polynomials.specs.Places.{packed, field}
use Rattle.polynomials.specs.ReductionLaws.{reduced-most, field-reduced}
use Rattle.doubles.specs.Whole.{double, whole_part, is_whole, Held}
use Rattle.doubles.specs.Exactly.{held, held_number, held_whole}
use Rattle.settings.specs.Answers.{answered, fine, refuse}
use Rattle.settings.specs.AnswerLaws.{passed, passed_first, passed-last}
use Rattle.settings.specs.Settings.{setting_checks, base, places, span_of}
use Rattle.words.specs.Places.{word_checks, reduced_word, reduce_answer, Reduces}
use Rattle.packed.specs.Running.{fed_pairs}
use Rattle.packed.specs.SumOfPairs.{batch-fields}
use Rattle.settings.specs.declared.setting.Setting.{Setting}
use Rattle.lane.specs.Lanes.{lane_cause, make_checks, held_cause, improper_cause, lane_sum_checks, sum_word, reduce_checks, LaneSums, LaneReduces}
use Rattle.lane.specs.LaneLaws.{held-checked, held-within, word_small}
use Rattle.lane.specs.SumLaws.{Listed, listed, listed-operands, listed-few, word_fits, sum-small}
use Rattle.lane.specs.declared.Lane.{Lane}
use Rattle.settings.specs.Refusals.{says-once}
use Rattle.settings.specs.declared.refusals.Refusal.{Refusal}

accepted : (l : Lane) → held_cause l ≡ false → setting_checks l.setting ≡ fine
unfolding make_checks
accepted l e = (passed_first (setting_checks l.setting) (refuse (lane_cause l.setting) 16 0) tt (held-checked l e)).0

-- ---- sum

pub record SumAnswer (s : Setting) (xs ys : List ℕ) (x : Float) : Type 0 where
  pub word : Held x (packed (base s) (sum_of_products (fed_pairs s xs ys)))
  pub fields : (j : ℕ) → field (base s) (whole_part x) j ≡ coefficient (sum_of_products (fed_pairs s xs ys)) j

module _ (l : Lane) (xs ys : List ℕ) (x : Float) (promise : LaneSums l xs ys (Ok x)) where
  sum_told : (lane_sum_checks l xs ys ≡ fine) × (answered (double (sum_word l.setting xs ys)) ≡ answered x)
  sum_told = passed_first (lane_sum_checks l xs ys) (answered (double (sum_word l.setting xs ys))) x (sym promise)

  lists : Listed l.setting xs ys
  lists = listed l xs ys sum_told.0

  made : held_cause l ≡ false
  unfolding lane_sum_checks
  made = (passed (held_cause l) 12 0 _ tt sum_told.0).0

  holds : Held x (sum_word l.setting xs ys)
  holds =
      let is : double (sum_word l.setting xs ys) ≡ x = let e = sum_told.1 in cc in
      rw is at (held (sum_word l.setting xs ys) (omega (arith, sum-small lists)))

  pub sum-schoolbook : SumAnswer l.setting xs ys x
  sum-schoolbook = record {
    word = holds;
    fields = λ j. rw (held_number holds) (batch-fields l.setting (accepted l made) (fed_pairs l.setting xs ys) (listed-operands lists) (listed-few lists) j);
  }

  pub sum-reduces : reduce_checks l x ≡ fine
  unfolding reduce_checks
  sum-reduces = rw (made, held_whole holds, held_number holds, lt-leb (2 ^ span_of l.setting) (sum_word l.setting xs ys) (word_fits lists))

-- ---- reduce

module _ (l : Lane) (x y : Float) (promise : LaneReduces l x (Ok y)) where
  abbrev s : Setting
  s = l.setting

  reduce-told : (reduce_checks l x ≡ fine) × (answered (double (reduced_word s (whole_part x))) ≡ answered y)
  reduce-told = passed_first (reduce_checks l x) (answered (double (reduced_word s (whole_part x)))) y (sym promise)

  checked : (held_cause l ≡ false) × (improper_cause s x ≡ false)
  unfolding reduce_checks
  checked =
      let a = passed (held_cause l) 12 0 (refuse (improper_cause s x) 11 0) tt reduce-told.0 in
      (a.0, passed-last (improper_cause s x) 11 0 a.1)

  below : whole_part x < 2 ^ span_of s
  below = leb-false (2 ^ span_of s) (whole_part x) (neither (not (is_whole x)) (nat_le (2 ^ span_of s) (whole_part x)) checked.1).1

  short : reduced_word s (whole_part x) ≤ whole_part x
  short = reduced-most s.p (base s) (places s) (whole_part x) (pow_pos s.t)

  pub reduced-holds : Held y (reduced_word s (whole_part x))
  reduced-holds =
      let is : double (reduced_word s (whole_part x)) ≡ y = let e = reduce-told.1 in cc in
      rw is at (held (reduced_word s (whole_part x)) (omega (arith, short, word_small (held-within l checked.0) (whole_part x) below)))

  pub reduce-agrees : (r : Result ℕ Refusal) → Reduces s (whole_part x) r → r ≡ Ok (whole_part y)
  unfolding reduce_answer word_checks
  reduce-agrees r h =
      says-once r (Ok (whole_part y)) (reduce_answer s (whole_part x)) h
      (rw (accepted l checked.0, lt-leb (2 ^ span_of s) (whole_part x) below) (ap (λ (n : ℕ). answered n) (held_number reduced-holds)))

  pub reduce-fields : (j : ℕ) → j < places s → field (base s) (whole_part y) j ≡ field (base s) (whole_part x) j % s.p
  reduce-fields j h = rw (held_number reduced-holds) (field-reduced s.p (base s) (places s) (whole_part x) j (pow_pos s.t) h)

-- ---- both

pub sum-reduced : (l : Lane) (xs ys : List ℕ) (x y : Float) → LaneSums l xs ys (Ok x) → LaneReduces l x (Ok y)
    → (j : ℕ) → j < places l.setting → field (base l.setting) (whole_part y) j ≡ coefficient (sum_of_products (fed_pairs l.setting xs ys)) j % l.setting.p
sum-reduced l xs ys x y a b j h = reduce-fields l x y b j h ∙ ap (λ (n : ℕ). n % l.setting.p) ((sum-schoolbook l xs ys x a).fields j)
