-- What an accepted setting gives. Assumes nothing.
--     Bounds s       the ranges of p, k, t, n; and, from 5 and 6, that fields, words and batches fit
--     Rows s         what 1 to 6 leave, row by row, in numbers
--     rows-exactly   check accepts exactly these settings: with bounds, the one law that looks into 5 and 6
--     bounds         a setting that no check refuses has these bounds
--     batch-within   the coefficients of a sum of up to n products are bounded as fields are
--     pairs-fit      the packed products of up to n pairs add up to less than 2^64
use Rattle.std.specs.Prelude.{ℕ, suc, ◌+◌, ◌-◌, ◌*◌, ◌^◌, ◌≤◌, ◌<◌, ◌≡◌, List, ◌↔◌, length}
use Rattle.std.proofs.Common.{sym, ◌∙◌, le_trans, lt_of_le_of_lt, lt_of_lt_of_le, le-mul_of_pos_right, mul-le-mul_right, mul-le-mul, mul-pos, mul_comm, arith, pow_mono, leb-false}
use Rattle.std.proofs.Math.Nat.{pow-succ'}
use Rattle.std.proofs.Math.Decide.{dec_lt}
use Rattle.std.proofs.lemmas.Bool.{lt-leb}
use Rattle.polynomials.specs.Lists.{coefficient, product, Within, Operand, Pair, Pairs, sum_of_products, batch_most}
use Rattle.polynomials.specs.Places.{packed, sum_of_words}
use Rattle.polynomials.specs.BoundLaws.{product-most, batch-most, batch-more, batch-narrow, batch-past}
use Rattle.polynomials.specs.PlaceLaws.{packed-product, packed-sum_of_products, packed-top, power-power}
use Rattle.settings.specs.Limits.{largest_modulus, most_coefficients, largest_batch, widest, word_bits}
use Rattle.settings.specs.Answers.{fine}
use Rattle.settings.specs.AnswerLaws.{passed, passed-last}
use Rattle.settings.specs.Settings.{modulus_cause, length_cause, batch_cause, width_cause, narrow_cause, room_cause, setting_checks, base, batch_top, span_of, InRange}
use Rattle.settings.specs.SettingLaws.{range-passes, in-choice, in-range}
use Rattle.settings.specs.declared.setting.Setting.{Setting}

pub record Bounds (s : Setting) : Type 0 where
  pub range : InRange s
  -- a coefficient is below the base
  pub coefficient_fits : s.p ≤ base s
  -- the last place starts within the word
  pub last_place : (2 * s.k - 2) * s.t < word_bits
  -- every field of a batch is below the base
  pub field_fits : (j : ℕ) → batch_most s.p s.k s.n j < base s
  -- the word of a batch is below 2^64
  pub batch_fits : (xs : List ℕ) → Within (batch_most s.p s.k s.n) xs → packed (base s) xs < 2 ^ 64
  -- the word of one packed polynomial is below 2^32
  pub word_fits : (xs : List ℕ) → Operand s.p s.k xs → packed (base s) xs < 2 ^ 32

-- what 1 to 6 leave, row by row
pub record Rows (s : Setting) : Type 0 where
  pub range : InRange s
  pub wide : batch_top s < base s
  pub room : span_of s < word_bits

rows : (s : Setting) → setting_checks s ≡ fine → Rows s
unfolding setting_checks
rows s e =
    let a = passed (modulus_cause s.p) 1 0 _ tt e in
    let b = passed (length_cause s.k) 2 0 _ tt a.1 in
    let c = passed (batch_cause s.n) 3 0 _ tt b.1 in
    let d = passed (width_cause s.t) 4 0 _ tt c.1 in
    let f = passed (narrow_cause s) 5 0 _ tt d.1 in
    let g = passed-last (room_cause s) 6 0 f.1 in
    record {
      range = in-range s (in-choice s.p s.k s.n a.0 b.0 c.0) d.0;
      wide = leb-false (base s) (batch_top s) f.0;
      room = leb-false word_bits (span_of s) g;
    }

pub rows-exactly : (s : Setting) → (setting_checks s ≡ fine) ↔ Rows s
unfolding setting_checks
rows-exactly s = (
  rows s,
  λ r. rw (
    range-passes 2 largest_modulus s.p r.range.choice.p_low r.range.choice.p_high,
    range-passes 1 most_coefficients s.k r.range.choice.k_low r.range.choice.k_high,
    range-passes 1 largest_batch s.n r.range.choice.n_low r.range.choice.n_high,
    range-passes 1 widest s.t r.range.t_low r.range.t_high,
    lt-leb (base s) (batch_top s) r.wide,
    lt-leb word_bits (span_of s) r.room,
  ),
)

module _ (s : Setting) (r : Rows s) where
  coefficient-below : s.p ≤ base s
  coefficient-below =
      let m : ℕ = s.p - 1 in
      let one : m ≤ m * m = le-mul_of_pos_right m (omega (arith, r.range.choice.p_low)) in
      let all : m * m ≤ m * m * (s.n * s.k) = le-mul_of_pos_right (m * m) (mul-pos r.range.choice.n_low r.range.choice.k_low) in
      omega (arith, r.wide, mul_comm (m * m) (s.n * s.k), r.range.choice.p_low)

  field_below : (j : ℕ) → batch_most s.p s.k s.n j < base s
  field_below j = lt_of_le_of_lt (batch-narrow s.p s.k s.n j) r.wide

  -- all 2k-1 fields below the base, in a word of (2k-1) t bits
  batch-below : (xs : List ℕ) → Within (batch_most s.p s.k s.n) xs → packed (base s) xs < 2 ^ 64
  batch-below xs w =
      let m : ℕ = 2 * s.k - 2 in
      let last : suc m ≡ 2 * s.k - 1 = omega (arith, r.range.choice.k_low) in
      let below : (j : ℕ) → coefficient xs j < base s = λ j. lt_of_le_of_lt (w j) (field_below j) in
      let past : (j : ℕ) → m < j → coefficient xs j ≡ 0 = λ j h. omega (arith, w j, batch-past s.p s.k s.n j (omega arith)) in
      let top : base s - 1 + 1 ≡ base s = omega (arith, below 0) in
      let number : packed (base s) xs < base s * base s ^ m = rw top at (packed-top (base s) (base s - 1) m xs (λ j h. below j) (omega (arith, below m)) past) in
      let bits : base s * base s ^ m ≡ 2 ^ span_of s = sym (pow-succ' (base s) m) ∙ power-power 2 s.t (suc m) ∙ rw last in
      lt_of_lt_of_le (rw bits at number) (pow_mono {j = 64} (omega (arith, r.room)))

  -- squared, it is the word of a product, and so below 2^64
  word_below : (xs : List ℕ) → Operand s.p s.k xs → packed (base s) xs < 2 ^ 32
  word_below xs o = go (dec_lt (packed (base s) xs) (2 ^ 32))
    where
      fits : Within (batch_most s.p s.k s.n) (product xs xs)
      fits j = omega (arith, product-most s.p s.k xs xs o o j, batch-more s.p s.k 1 s.n r.range.choice.n_low j)

      square : packed (base s) xs * packed (base s) xs < 2 ^ 64
      square = rw (← packed-product (base s) xs xs) (batch-below (product xs xs) fits)

      go : Dec (packed (base s) xs < 2 ^ 32) → packed (base s) xs < 2 ^ 32
      go (yes h) = h
      go (no h) = let big : 2 ^ 32 ≤ packed (base s) xs = omega arith in absurd (omega (arith, square, mul-le-mul big big))

pub bounds : (s : Setting) → setting_checks s ≡ fine → Bounds s
bounds s e =
    let r = rows s e in
    record {
      range = r.range;
      coefficient_fits = coefficient-below s r;
      last_place = lt_of_le_of_lt (mul-le-mul_right {m = 2 * s.k - 2} {n = 2 * s.k - 1} s.t (omega arith)) r.room;
      field_fits = field_below s r;
      batch_fits = batch-below s r;
      word_fits = word_below s r;
    }

pub batch-within : (s : Setting) (cs : List Pair) → Pairs s.p s.k cs → length cs ≤ s.n → Within (batch_most s.p s.k s.n) (sum_of_products cs)
batch-within s cs ps h j = le_trans (batch-most s.p s.k cs ps j) (batch-more s.p s.k (length cs) s.n h j)

pub pairs-fit : (s : Setting) → Bounds s → (cs : List Pair) → Pairs s.p s.k cs → length cs ≤ s.n → sum_of_words (base s) cs < 2 ^ 64
pairs-fit s b cs ps h = rw (← packed-sum_of_products (base s) cs) (b.batch_fits (sum_of_products cs) (batch-within s cs ps h))
