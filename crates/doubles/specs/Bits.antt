-- A double and its bits: but for a NaN, which has many, each has its own. Assumes nothing.
--     double-number     the double of a whole number is no NaN
--     inverse-number    and neither is what 1.0 / p gives
--     same_bits         two doubles that differ in no bit are one
--     no_difference     what is no NaN does not differ from itself
--     not_itself        x != x exactly for a NaN
use Rattle.std.specs.Prelude.{ℕ, ◌*◌, ◌≤◌, ◌<◌, ◌≡◌, refl, true, false, not, T, eqb, Float}
use Rattle.std.proofs.Common.{sym, ◌∙◌, eq-eqb, eqb-true}
use mathlib.Mathlib.Data.Bool.Basic.{or-eq-false-eq-eq-false-and-eq-false}
use Rattle.std.proofs.lemmas.Bool.{not-false}
use Rattle.std.specs.Float.{nan, inf, fin, binary64}
use Rattle.std.specs.Float.Ieee.{up, down, ne, to_bits, is_nan, fits}
use Rattle.std.specs.Float.Ieee.Bits.{of_bits-to_bits}
use Rattle.std.specs.Float.Ieee.Exact.{HasValue}
use Rattle.std.specs.Float.Ieee.Scale.{grid}
use Rattle.doubles.specs.Whole.{exact_below, double, inverse, largest_divisor, differs_in_bits}
use Rattle.doubles.specs.Exactly.{held, held-value}
use Rattle.doubles.specs.Error.{unit}
use Rattle.doubles.specs.Near.{inverse-value}

value-number : (x : Float) (a c : ℕ) → HasValue x false a c → is_nan x ≡ false
unfolding is_nan
value-number nan a c h = elim h [ ]
value-number (inf _) a c h = elim h [ ]
value-number (fin s m e) a c h = refl

pub double-number : (n : ℕ) → n < exact_below → is_nan (double n) ≡ false
double-number n h = value-number (double n) n 1 (held-value (held n h))

pub inverse-number : (p : ℕ) → 0 < p → p ≤ largest_divisor → is_nan (inverse p) ≡ false
inverse-number p P m = value-number (inverse p) (grid binary64 1 p) unit (inverse-value p P m)

pub same_bits : (x y : Float) → T (fits binary64 x) → T (fits binary64 y) → differs_in_bits x y ≡ false → x ≡ y
same_bits x y f g e =
    let a : ℕ = to_bits binary64 x in
    let b : ℕ = to_bits binary64 y in
    let same : a ≡ b = eqb-true a b (not-false (eqb a b) ((or-eq-false-eq-eq-false-and-eq-false (is_nan x) (not (eqb a b))).0 e).1) in
    sym (of_bits-to_bits binary64 x f) ∙ rw same (of_bits-to_bits binary64 y g)

pub no_difference : (x : Float) → is_nan x ≡ false → differs_in_bits x x ≡ false
no_difference x h = rw (h, eq-eqb (to_bits binary64 x) (to_bits binary64 x) refl)

pub not_itself : (x : Float) → ne x x ≡ is_nan x
unfolding ne is_nan
not_itself nan = refl
not_itself (inf true) = refl
not_itself (inf false) = refl
not_itself (fin true m e) = rw (eq-eqb (m * up e * down e) (m * up e * down e) refl)
not_itself (fin false m e) = rw (eq-eqb (m * up e * down e) (m * up e * down e) refl)
