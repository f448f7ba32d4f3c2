-- Tests that are put together. Assumes nothing.
--     neither    where one of two tests does not hold, neither of them does: the library's law under a name that is short
use Rattle.std.specs.Prelude.{◌≡◌, Bool, false, ◌||◌}
use mathlib.Mathlib.Data.Bool.Basic.{or-eq-false-eq-eq-false-and-eq-false}

pub neither : (a b : Bool) → (a || b) ≡ false → (a ≡ false) × (b ≡ false)
neither a b = (or-eq-false-eq-eq-false-and-eq-false a b).0
