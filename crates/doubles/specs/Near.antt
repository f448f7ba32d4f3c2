-- The rounded product of a whole number x with what 1.0 / p gives is near the quotient x / p. Assumes nothing.
--     inverse-value     what 1.0 / p gives, as a fraction
--     product-between   the rounded product is from x / p - 1 up, and below x / p + 1
use Rattle.std.specs.Prelude.{ℕ, zero, suc, ◌+◌, ◌-◌, ◌*◌, ◌/◌, ◌^◌, ◌≤◌, ◌<◌, ◌≡◌, false}
use Rattle.std.proofs.Common.{zero-le, le_refl, le_trans, lt_of_le_of_lt, lt_of_lt_of_le, lt_of_not-le, not-le_of_lt, add-le-add, zero-mul, div-le_self, mul-pos, mul-le-mul, mul-le-mul_left, mul-le-mul_right, mul-lt-mul_of_pos_right, le-mul_of_pos_right, div-mul-le_self, le_of_mul-le-mul_right, lt_of_mul-lt-mul_right, arith, lit≤, lit<}
use Rattle.std.proofs.Math.Nat.{zero-div, lt-div-mul-add}
use Rattle.std.specs.Float.{binary64}
use Rattle.std.specs.Float.Ieee.{round, mul}
use Rattle.std.specs.Float.Ieee.Back.{round_whole}
use Rattle.std.specs.Float.Ieee.Exact.{HasValue}
use Rattle.std.specs.Float.Ieee.Scale.{grid, round_val, round_same}
use Rattle.doubles.specs.Whole.{exact_below, double, inverse, quotient_below, largest_divisor}
use Rattle.doubles.specs.Rounded.{mul-round, div-round}
use Rattle.doubles.specs.Exactly.{held, held-value}
use Rattle.doubles.specs.Between.{Between, value-between}
use Rattle.doubles.specs.Error.{Off, unit, rounded-off}

-- ---- numbers only: i / u is 1 / p, and g / u is x * (i / u), each to within one part in b

-- so g / u times p is x to within less than one
twice-off : (x u i g p b : ℕ) → 0 < u → Off b u (i * p) → Off b (x * i * u) (g * u) → x * (2 * b + 1) < b * b
    → (g * p < x * u + u) × (x * u < g * p + u)
twice-off x u i g p b U first second room =
    let r : x * (2 * b + 1) * (u * u) < b * b * (u * u) = mul-lt-mul_of_pos_right room (mul-pos U U) in
    let s : x * u * (i * p * b) ≤ x * u * (u * b + u) = mul-le-mul_left (x * u) first.0 in (
      lt_of_mul-lt-mul_right (u * (b * b)) (omega (arith, mul-le-mul_right (p * b) second.0, mul-le-mul_left (x * u * b) first.0)),
      lt_of_mul-lt-mul_right (u * (b * b)) (omega (arith, mul-le-mul_right (p * b) second.1, mul-le-mul_left (x * u * b) first.1)),
    )

-- and g / u is from q - 1 up and below q + 1, where q is the quotient
near-quotient : (q x p u g : ℕ) → 0 < p → q * p ≤ x → x < q * p + p → g * p < x * u + u → x * u < g * p + u
    → ((q - 1) * u ≤ g) × (g < (q + 1) * u)
near-quotient q x p u g P l h a b = (least q l, lt_of_mul-lt-mul_right p (omega (arith, mul-le-mul_right u h)))
  where
    least : (q : ℕ) → q * p ≤ x → (q - 1) * u ≤ g
    least zero l = omega arith
    least (suc r) l =
        let less : suc r - 1 ≡ r = omega arith in
        rw less (le_of_mul-le-mul_right {k = p} (omega (arith, mul-le-mul_right u l, mul-le-mul_right u P)) P)

factor-le : (i p b w : ℕ) → 0 < p → 0 < b → i * p * b ≤ w → i ≤ w
factor-le i p b w P B h = omega (arith, le-mul_of_pos_right i (mul-pos P B))

-- ---- doubles

module _ (p : ℕ) (P : 0 < p) (most : p ≤ largest_divisor) where
  inverse-off : Off exact_below unit (grid binary64 1 p * p)
  inverse-off = rounded-off 1 p P (le_trans (mul-le-mul_left (2 ^ 52) most) (lit≤ tt))

  pub inverse-value : HasValue (inverse p) false (grid binary64 1 p) unit
  inverse-value =
      rw (div-round binary64 (double 1) (double p) 1 p P (held-value (held 1 (lit< tt))) (held-value (held p (omega arith))))
      (round_val binary64 1 p
      (lt_of_le_of_lt (factor-le (grid binary64 1 p) p exact_below (unit * exact_below + unit) P (lit< tt) inverse-off.0) (lit< tt)))

  -- it is large enough to keep 53 digits, and so is a product with it
  inverse-large : 2 ^ 52 < grid binary64 1 p
  inverse-large =
      lt_of_not-le
      (λ l. not-le_of_lt (lit< tt) (le_trans inverse-off.1 (add-le-add (mul-le-mul_right exact_below (mul-le-mul l most)) (le_refl unit))))

  product_is : (x : ℕ) → x < quotient_below → mul binary64 (double x) (inverse p) ≡ round binary64 false (x * grid binary64 1 p) unit
  product_is x s =
      mul-round binary64 (double x) (inverse p) x 1 (grid binary64 1 p) unit (lit< tt) (lit< tt) (held-value (held x (omega arith))) inverse-value

  pub product-between : (x : ℕ) → x < quotient_below → Between (mul binary64 (double x) (inverse p)) (x / p - 1) (x / p + 1)
  product-between zero s =
      rw (product_is 0 s, round_same binary64 false (0 * grid binary64 1 p) unit 0 1 (lit< tt) (lit< tt) (simp zero-mul), zero-div)
      (value-between (round binary64 false 0 1) 0 1 0 1 (lit< tt) (round_whole binary64 false 0 zero-le) (lit≤ tt) (lit< tt))
  product-between (suc x) s =
      let n = suc x in
      let i = grid binary64 1 p in
      let g = grid binary64 (n * i) unit in
      let large : 2 ^ 52 ≤ n * i = omega (arith, inverse-large) in
      let off : Off exact_below (n * i * unit) (g * unit) = rounded-off (n * i) unit (lit< tt) (mul-le-mul_right {m = 2 ^ 52} unit large) in
      let times = twice-off n unit i g p exact_below (lit< tt) inverse-off off (omega arith) in
      let near = near-quotient (n / p) n p unit g P (div-mul-le_self n p) (lt-div-mul-add P) times.0 times.1 in
      let finite = lt_of_lt_of_le near.1 (le_trans (mul-le-mul_right {n = exact_below} unit (omega (arith, div-le_self n p))) (lit≤ tt)) in
      rw (product_is n s)
      (value-between (round binary64 false (n * i) unit) g unit (n / p - 1) (n / p + 1) (lit< tt) (round_val binary64 (n * i) unit finite)
      near.0 near.1)
