-- How far a rounded fraction is from the fraction: at most half of the weight of its last digit. Assumes nothing.
--     Off b n g      g is n to within one part in b
--     unit           every double is a whole number of parts of 1 / unit
--     rounded-off    a / c in those parts, rounded, is a / c to within one part in 2^53, if it is large enough to keep 53 digits
use Prim.Native.Nat.{ℕ, suc, ◌+◌, ◌*◌, ◌/◌, ◌%◌, ◌^◌, ◌≤◌, ◌<◌, compare, Ordering}
use Rattle.std.specs.Prelude.{◌≡◌, not, T}
use Rattle.std.proofs.Common.{mul-pos, mul-le-mul_right, mod-lt, div-add-mod', le-div_iff_mul-le, pow-suc, arith, leb→le, eqb→eq, pow-add, pow_pos}
use Rattle.std.proofs.Math.Dec.{is_le, compare_is_eq, nleb→lt}
use Rattle.std.specs.Float.{binary64}
use Rattle.std.specs.Float.Ieee.{low, size, nearest}
use Rattle.std.specs.Float.Ieee.Digits.{size_reaches}
use Rattle.std.specs.Float.Ieee.Nearest.{closest}
use Rattle.std.specs.Float.Ieee.Order.{drop, kept}
use Rattle.std.specs.Float.Ieee.Scale.{grid, normal_of_fraction}
use Rattle.doubles.specs.Whole.{exact_below}

abbrev pub Off : ℕ → ℕ → ℕ → Type 0
Off b n g = (g * b ≤ n * b + n) × (n * b ≤ g * b + n)

abbrev pub unit : ℕ
unit = 2 ^ low binary64

-- q is n / u to within a half
abbrev HalfOff : ℕ → ℕ → ℕ → Type 0
HalfOff n u q = (q * u * 2 ≤ n * 2 + u) × (n * 2 ≤ q * u * 2 + u)

nearest-off : (n u q r : ℕ) (o : Ordering) → q * u + r ≡ n → r < u → (T (is_le o) → r * 2 ≤ u) → (T (not (is_le o)) → u < r * 2)
    → (T (compare_is_eq o) → r * 2 ≡ u) → HalfOff n u (nearest q o)
nearest-off n u q r Ordering.lt e l below above level = omega (arith, below tt)
nearest-off n u q r Ordering.eq e l below above level =
    let odd : q % 2 ≤ 1 = omega arith in
    omega (arith, level tt, mul-le-mul_right u odd)
nearest-off n u q r Ordering.gt e l below above level = omega (arith, above tt)

closest-off : (n u : ℕ) → 0 < u → HalfOff n u (closest n u)
closest-off n u U =
    let r = n % u in
    nearest-off n u (n / u) r (compare (r * 2) u) (div-add-mod' n u) (mod-lt n U) (leb→le (r * 2) u) (nleb→lt (r * 2) u) (eqb→eq (r * 2) u)

kept_off : (p n c : ℕ) → 0 < c → suc p ≤ size (n / c) → Off (2 ^ suc p) n (kept (suc p) n c * 2 ^ drop (suc p) n c * c)
kept_off p n c C N =
    let k = drop (suc p) n c in
    let off = closest-off n (c * 2 ^ k) (mul-pos C (pow_pos k)) in
    let weight : 2 ^ p * 2 ^ k * c ≤ n = rw (← pow-add) ((le-div_iff_mul-le C).0 (size_reaches (n / c) (p + k) (omega arith))) in
    rw pow-suc (omega (arith, mul-le-mul_right (2 ^ p) off.0, mul-le-mul_right (2 ^ p) off.1))

pub rounded-off : (a c : ℕ) → 0 < c → 2 ^ 52 * c ≤ a * unit → Off exact_below (a * unit) (grid binary64 a c * c)
rounded-off a c C h = kept_off 52 (a * unit) c C (normal_of_fraction binary64 a c C h)
