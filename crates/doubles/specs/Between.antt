-- A double that lies in a range of whole numbers, and the whole number that it is cut to. Assumes nothing.
--     Between x lo hi    x is a number from lo up, and below hi
--     value-between      a fraction that lies there
--     between-may-cut    what the cut asks
--     between-cut        the cut stays in the range
use Prim.Native.Nat.{ℕ, ◌+◌, ◌-◌, ◌*◌, ◌/◌, ◌^◌, ◌≤◌, ◌<◌, min}
use Rattle.std.specs.Prelude.{◌≡◌, refl, pos, T, Float}
use Rattle.std.proofs.Math.Bool.{true, false}
use Rattle.std.proofs.Common.{le-div_iff_mul-le, div-lt_iff_lt-mul, mul-lt-mul_of_pos_right, le_of_mul-le-mul_right, lt_of_mul-lt-mul_right, arith, lt→ltb}
use Rattle.std.proofs.Math.Nat.{mul-le-mul_right}
use Rattle.std.proofs.Math.Dec.{ltb}
use Rattle.std.specs.Float.{fin}
use Rattle.std.specs.Float.Ieee.{lt, to_unsigned}
use Rattle.std.specs.Float.Ieee.Exact.{HasValue}
use Rattle.std.specs.Float.Ieee.Positive.{num, den, den_pos, value→cross}
use Rattle.doubles.specs.Whole.{whole_part}
use Rattle.doubles.specs.Rounded.{parts}

pub record Between (x : Float) (lo hi : ℕ) : Type 0 where
  pub fraction : HasValue x false (num x) (den x)
  pub least : lo * den x ≤ num x
  pub short : num x < hi * den x

pub value-between : (x : Float) (a c lo hi : ℕ) → 0 < c → HasValue x false a c → lo * c ≤ a → a < hi * c → Between x lo hi
value-between x a c lo hi C h l s =
    let same = value→cross x a c h in
    record {
      fraction = rw (parts x a c h).2 (refl, refl);
      least = le_of_mul-le-mul_right {k = c} (omega (arith, mul-le-mul_right (den x) l)) C;
      short = lt_of_mul-lt-mul_right c (omega (arith, mul-lt-mul_of_pos_right s (den_pos x)));
    }

module _ {x : Float} {lo hi : ℕ} (h : Between x lo hi) (small : hi ≤ 2 ^ 64) where
  pub between-may-cut : T (lt (fin true 1 (pos 0)) x) × T (lt x (fin false 1 (pos 64)))
  unfolding lt
  between-may-cut =
      let above : lt (fin true 1 (pos 0)) x ≡ ltb 0 (1 * 1 * den x + num x * 1) = rw (parts x (num x) (den x) h.fraction).2 in
      let below : lt x (fin false 1 (pos 64)) ≡ ltb (num x * 1) (1 * 2 ^ 64 * den x) = rw (parts x (num x) (den x) h.fraction).2 in (
        rw above (lt→ltb 0 (1 * 1 * den x + num x * 1) (omega (arith, den_pos x))),
        rw below (lt→ltb (num x * 1) (1 * 2 ^ 64 * den x) (omega (arith, mul-le-mul_right (den x) small))),
      )

  pub between-cut : (lo ≤ whole_part x) × (whole_part x < hi)
  unfolding to_unsigned
  between-cut =
      let is : whole_part x ≡ min (num x / den x) (2 ^ 64 - 1) = rw (parts x (num x) (den x) h.fraction).2 in
      let from : lo ≤ num x / den x = (le-div_iff_mul-le (den_pos x)).1 h.least in
      let to : num x / den x < hi = (div-lt_iff_lt-mul (den_pos x)).1 h.short in
      rw is (omega arith)
