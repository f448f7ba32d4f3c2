-- What the operations of `exact` ask of numbers that are held, and what they give. Assumes nothing.
--     plus-asks, less-asks, times-asks
--                              what they ask, of numbers that are held
--     plus-gives, less-gives, times-gives
--                              what they give
use Rattle.std.specs.Prelude.{ℕ, ◌+◌, ◌-◌, ◌*◌, ◌<◌, ◌≤◌, Float}
use Rattle.doubles.specs.Whole.{exact_below, whole_part, Held, Exact}
use Rattle.doubles.specs.Exactly.{held_number, held-exact}

module _ {x y : Float} {a b : ℕ} (hx : Held x a) (hy : Held y b) where
  pub plus-asks : a + b < exact_below → Exact x × Exact y × (whole_part x + whole_part y < exact_below)
  plus-asks h = (held-exact hx, held-exact hy, rw (held_number hx, held_number hy) h)

  pub less-asks : b ≤ a → Exact x × Exact y × (whole_part y ≤ whole_part x)
  less-asks h = (held-exact hx, held-exact hy, rw (held_number hx, held_number hy) h)

  pub times-asks : a * b < exact_below → Exact x × Exact y × (whole_part x * whole_part y < exact_below)
  times-asks h = (held-exact hx, held-exact hy, rw (held_number hx, held_number hy) h)

  pub plus-gives : {r : Float} → Held r (whole_part x + whole_part y) → Held r (a + b)
  plus-gives h = rw (held_number hx, held_number hy) at h

  pub less-gives : {r : Float} → Held r (whole_part x - whole_part y) → Held r (a - b)
  less-gives h = rw (held_number hx, held_number hy) at h

  pub times-gives : {r : Float} → Held r (whole_part x * whole_part y) → Held r (a * b)
  times-gives h = rw (held_number hx, held_number hy) at h
