-- The quotient of x by p, from the rounded product of x with what 1.0 / p gives, cut to a whole number, for x below 2^52 and p up to
-- largest_divisor. Assumes nothing.
--     off-by-one                  it is never too high, and low by at most one
--     may-cut                     what the cut asks
--     put_right                   the remainder tells which: below p it is the quotient, from p on it is one less
--     falls-short, comes-right    both happen: 49 / 49 is cut to 0, and 50 / 49 to 1
use Rattle.std.specs.Prelude.{ℕ, ◌+◌, ◌-◌, ◌*◌, ◌/◌, ◌≤◌, ◌<◌, ◌≡◌, refl, true, false, pos, T}
use Rattle.std.proofs.Common.{ap, inl, inr, eq-or-lt_of_le, div-mul-le_self, div-le_self, mul-le-mul_right, arith}
use Rattle.std.proofs.Math.Nat.{lt-div-mul-add}
use Rattle.std.specs.Float.{fin, binary64}
use Rattle.std.specs.Float.Ieee.{mul, div, lt, of_int, to_unsigned}
use Rattle.doubles.specs.Whole.{double, inverse, cut_product, quotient_below, largest_divisor}
use Rattle.doubles.specs.Between.{between-cut, between-may-cut}
use Rattle.doubles.specs.Near.{product-between}

pub off-by-one : (x p : ℕ) → x < quotient_below → 0 < p → p ≤ largest_divisor → (cut_product x p ≤ x / p) × (x / p ≤ cut_product x p + 1)
off-by-one x p s P m = omega (arith, between-cut (product-between p P m x s) (omega (arith, div-le_self x p)))

pub may-cut : (x p : ℕ) → x < quotient_below → 0 < p → p ≤ largest_divisor
    → T (lt (fin true 1 (pos 0)) (mul binary64 (double x) (inverse p))) × T (lt (mul binary64 (double x) (inverse p)) (fin false 1 (pos 64)))
may-cut x p s P m = between-may-cut (product-between p P m x s) (omega (arith, div-le_self x p))

pub put_right : (x p g : ℕ) → 0 < p → g ≤ x / p → x / p ≤ g + 1
    → (g * p ≤ x) × (x - g * p < p → g ≡ x / p) × (p ≤ x - g * p → g + 1 ≡ x / p)
put_right x p g P h k =
    let above : x < x / p * p + p = lt-div-mul-add P in
    let below : x / p * p ≤ x = div-mul-le_self x p in
    elim (eq-or-lt_of_le h) [ inl e ↦ omega (arith, ap (λ z. z * p) e) | inr l ↦ omega (arith, mul-le-mul_right p l) ]

pub falls-short : cut_product 49 49 ≡ 0
unfolding to_unsigned mul div of_int
falls-short = refl

pub comes-right : cut_product 50 49 ≡ 1
unfolding to_unsigned mul div of_int
comes-right = refl
