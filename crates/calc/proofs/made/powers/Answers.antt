-- The powers of `powers` fit: they stay below the modulus. Assumes nothing.
use Rattle.std.proofs.Common.{ℕ, ◌≢◌, ◌<◌, ◌≤◌, ◌*◌, ◌%◌, ◌^◌, lt_of_le_of_lt, mod-lt, mul-le-mul, arith, lit<}
use Rattle.calc.proofs.made.powers.Goals as goal

-- two numbers below a modulus have a product of 33 bits
small : (power ratio modulus : ℕ) → modulus ≢ 0 → modulus ≤ 65537 → power < modulus → power * (ratio % modulus) < 2 ^ 64
small power ratio modulus one most below =
    let some : 0 < modulus = omega arith in
    let step = mod-lt ratio some in
    lt_of_le_of_lt (mul-le-mul {n₂ = 65537} {m₂ = 65537} (omega arith) (omega arith)) (lit< tt)

pub overflow_mul-power : goal.overflow_mul-power
overflow_mul-power c = record { fits = small _ _ _ c.if-modulus-eq0.false c.if-modulus-gt-LARGEST_MODULUS.false c.loop-place.invariant }
