-- `products_that_fit` meets its contract. Assumes nothing.
use Rattle.std.proofs.Common.{ℕ, ◌≡◌, ◌*◌, ◌^◌, ◌<◌, arith, le-div_iff_mul-le, mul-pos}
use Rattle.polynomials.specs.Places.{packed}
use Rattle.settings.specs.Settings.{base}
use Rattle.settings.specs.declared.accepted.Accepted.{Accepted}
use Rattle.packed.specs.OverflowLaws.{largest, largest-some, largest-fits}
use Rattle.packed.proofs.overflow.products_that_fit.Goals as goal

module _ (s : Accepted) (w : ℕ) (e : w ≡ packed (base s.setting) (largest s.setting)) where
  some : 0 < w * w
  some = rw e (mul-pos (largest-some s.setting s.bounds) (largest-some s.setting s.bounds))

  all : s.setting.n * (w * w) < 2 ^ 64
  all = rw e (largest-fits s.setting s.bounds)

pub returns : goal.returns
returns c =
    let w = c.largest_word-w in
    (le-div_iff_mul-le (some c.args.s w.result w.ensures)).1 (omega (arith, all c.args.s w.result w.ensures))
