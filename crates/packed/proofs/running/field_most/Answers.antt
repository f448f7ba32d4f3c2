-- `field_most` meets its contract: pairs below n, at most 15 products each, of numbers below p. Assumes nothing.
use Rattle.std.proofs.Common.{ℕ, ◌-◌, ◌*◌, ◌≤◌, arith, mul-le-mul}
use Rattle.packed.proofs.running.field_most.Goals as goal

room : (r x m : ℕ) → r ≤ 1048576 → x ≤ 15 → m ≤ 65535 → r * (x * (m * m)) ≤ 1048576 * (15 * (65535 * 65535))
room r x m hr hx hm = mul-le-mul {n₁ = r} {m₁ = x * (m * m)} {n₂ = 1048576} {m₂ = 15 * (65535 * 65535)} hr (mul-le-mul {n₁ = x} {m₁ = m * m} {n₂ = 15} {m₂ = 65535 * 65535} hx (mul-le-mul {n₁ = m} {m₁ = m} {n₂ = 65535} {m₂ = 65535} hm hm))

pub overflow_mul-result-3 : goal.overflow_mul-result-3
overflow_mul-result-3 c =
    let a = c.args in
    let choice = a.s.bounds.range.choice in
    let few = c.min-products in
    omega (arith, room a.pairs few.result (a.s.setting.p - 1) (omega (arith, c.requires.0, choice.n_high)) (omega (arith, few.ensures, c.places.ensures, choice.k_high)) (omega (arith, choice.p_high)))
