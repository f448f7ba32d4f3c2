-- The tests that tell a whole number in a lane's range: 0.0 <= x, x < 2^52, its bits are not those of -0, and its cut part, as a double again,
-- equals x. Assumes nothing.
--     minus_zero        the bits of -0, for which 0.0 <= x holds too
--     Tested x         x has passed the tests that stand before the cut
--     whole-tested     a whole number in the range passes them
--     from-zero-number the first of them leaves out a NaN
--     tested-cut       what passes them may be cut
--     tested-number    to a number in the range
--     tested-whole     and the last test passes exactly for a whole number
--     short-is         2^52, by its bits
use Rattle.std.specs.Prelude.{ℕ, zero, suc, ◌*◌, ◌<◌, ◌≡◌, refl, true, false, ℤ, pos, T, eqb, Float}
use Rattle.std.proofs.Common.{sym, ap, ◌∙◌, true≢false, zero-lt-suc, zero-mul, mul-pos, arith, lt-ltb, ltb-true, ne_eqb, eqb-true, eqb→eq, lit<, lit≤}
use Rattle.std.proofs.lemmas.Bool.{false≢true, eqb-false, not-false}
use Rattle.std.proofs.Math.Bool.{and-true}
use Rattle.std.proofs.Math.Nat.{zero-div, eq_of_mul-eq-mul_right}
use Rattle.std.specs.Float.{nan, inf, fin, binary64}
use Rattle.std.specs.Float.Ieee.{up, down, lt, le, eq, ne, of_int, of_bits, to_bits, whole, in_unsigned, is_nan, fits}
use Rattle.std.specs.Float.Ieee.Back.{whole_unique}
use Rattle.std.specs.Float.Ieee.Bits.{of_bits-to_bits, is_true}
use Rattle.std.specs.Float.Ieee.Exact.{HasValue}
use Rattle.std.specs.Float.Ieee.Fits.{of_int-fits, up_pos, and_l}
use Rattle.std.specs.Float.Ieee.Order.{le_of_values}
use Rattle.std.specs.Float.Ieee.Positive.{num, den, den_pos, value→cross}
use Rattle.doubles.specs.Whole.{exact_below, double, whole_part, is_whole, quotient_below}
use Rattle.doubles.specs.Rounded.{parts, same_test}
use Rattle.doubles.specs.Exactly.{held, held-value, held_whole, held_below, whole-held}
use Rattle.doubles.specs.Between.{Between, between-cut, between-may-cut}
use Rattle.doubles.specs.Bits.{double-number, not_itself}

abbrev pub minus_zero : ℕ
minus_zero = 0x8000_0000_0000_0000

pub record Tested (x : Float) : Type 0 where
  pub from_zero : le (double 0) x ≡ true
  pub short : lt x (double quotient_below) ≡ true
  pub not_minus : eqb (to_bits binary64 x) minus_zero ≡ false

pub short-is : of_bits binary64 0x4330_0000_0000_0000 ≡ double quotient_below
unfolding of_bits of_int
short-is = refl

-- ---- a whole number passes

minus-not-whole : is_whole (of_bits binary64 minus_zero) ≡ false
unfolding of_bits whole in_unsigned
minus-not-whole = refl

pub whole-tested : (x : Float) → T (fits binary64 x) → is_whole x ≡ true → whole_part x < quotient_below → Tested x
whole-tested x f w l =
    let h = whole-held x f w (omega arith) in
    let from = le_of_values (double 0) x 0 1 (whole_part x) 1 (lit< tt) (lit< tt) (held-value (held 0 (lit< tt))) (held-value h) (omega arith) in
    record {
      from_zero = is_true (le (double 0) x) from;
      short = held_below h (held quotient_below (lit< tt)) ∙ lt-ltb (whole_part x) quotient_below l;
      not_minus = ne_eqb (to_bits binary64 x) minus_zero (λ e. true≢false (sym w ∙ rw (← of_bits-to_bits binary64 x f, e) minus-not-whole));
    }

-- ---- what passes lies from 0 up, and below 2^52

minus-bits : (e : ℤ) → to_bits binary64 (fin true 0 e) ≡ minus_zero
unfolding to_bits
minus-bits e = rw (zero-mul, zero-mul, zero-div)

between : (x : Float) → Tested x → Between x 0 quotient_below
unfolding le lt of_int
between nan t = absurd (false≢true t.from_zero)
between (inf true) t = absurd (false≢true t.from_zero)
between (inf false) t = absurd (false≢true t.short)
between (fin true zero e) t = absurd (eqb-false (to_bits binary64 (fin true 0 e)) minus_zero t.not_minus (minus-bits e))
between (fin true (suc m) e) t =
    let both = and_l (eqb (0 * 1 * down e) (suc m * up e * 1)) (eqb (0 * 1 * down e) 0) (rw t.from_zero tt) in
    absurd (omega (arith, eqb→eq (0 * 1 * down e) (suc m * up e * 1) both, mul-pos (zero-lt-suc m) (up_pos e)))
between (fin false m e) t =
    let below = ltb-true (m * up e * 1) (1 * quotient_below * down e) t.short in
    record { fraction = (refl, refl); least = omega arith; short = omega arith }

pub from-zero-number : (x : Float) → le (double 0) x ≡ true → is_nan x ≡ false
unfolding le is_nan of_int
from-zero-number nan e = absurd (false≢true e)
from-zero-number (inf s) e = refl
from-zero-number (fin s m g) e = refl

pub tested-cut : {x : Float} → Tested x → T (lt (fin true 1 (pos 0)) x) × T (lt x (fin false 1 (pos 64)))
tested-cut {x} t = between-may-cut (between x t) (lit≤ tt)

pub tested-number : {x : Float} → Tested x → whole_part x < quotient_below
tested-number {x} t = (between-cut (between x t) (lit≤ tt)).1

-- ---- the last test

-- what equals a whole number, and is not negative, is it
eq-value : (x y : Float) (n : ℕ) → HasValue x false n 1 → HasValue y false (num y) (den y) → eq x y ≡ true → HasValue y false n 1
unfolding eq
eq-value x nan n h k t = elim k [ ]
eq-value x (inf _) n h k t = elim k [ ]
eq-value x (fin true m e) n h k t = absurd (true≢false k.0)
eq-value x (fin false m e) n h k t =
    let is : eq x (fin false m e) ≡ eqb (num x * down e) (m * up e * den x) = rw (parts x n 1 h).2 (and-true _) in
    let same = eqb-true (num x * down e) (m * up e * den x) (sym is ∙ t) in
    (refl, eq_of_mul-eq-mul_right (den x) (den_pos x) (m * up e * 1) (n * down e) (omega (arith, ap (λ z. z * down e) (value→cross x n 1 h))))

pub tested-whole : (x : Float) → T (fits binary64 x) → Tested x → eq (double (whole_part x)) x ≡ is_whole x
unfolding ne
tested-whole x f t = same_test (eq (double n) x) (is_whole x) there back
  where
    n : ℕ
    n = whole_part x

    small : n < exact_below
    small = omega (arith, tested-number t)

    v : HasValue (double n) false n 1
    v = held-value (held n small)

    there : eq (double n) x ≡ true → is_whole x ≡ true
    there e =
        let is = whole_unique binary64 x (double n) false n f (of_int-fits binary64 (pos n)) (eq-value (double n) x n v (between x t).fraction e) v in
        held_whole {x = x} {n = n} (record { is = is; below = small })

    -- then x is the double of n, and what is no NaN equals itself
    back : is_whole x ≡ true → eq (double n) x ≡ true
    back w =
        let e : double n ≡ x = sym (whole-held x f w small).is in
        let no_nan : is_nan x ≡ false = rw e at (double-number n small) in
        rw e (not-false (eq x x) (not_itself x ∙ no_nan))
