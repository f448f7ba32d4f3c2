-- `shifted_residue` meets its contract. Assumes nothing.
use Rattle.std.proofs.Common.{◌≡◌, ℕ, ◌-◌, ◌*◌, ◌/◌, ◌^◌, ◌≤◌}
use Rattle.polynomials.specs.Places.{shifted}
use Rattle.polynomials.specs.PlaceLaws.{power-power}
use Rattle.polynomials.specs.ReductionLaws.{quotient-under, shifted-quotient}
use Rattle.lane.proofs.residues.shifted_residue.Goals as goal

module _ (p t word i : ℕ) {whole : ℕ} (is : whole ≡ word / p) where
  under : p * (whole / 2 ^ (i * t)) ≤ word / 2 ^ (i * t)
  under = rw (is, ← power-power 2 t i) (quotient-under p (2 ^ t) word i)

  left : word / 2 ^ (i * t) - p * (whole / 2 ^ (i * t)) ≡ shifted p (2 ^ t) word i
  left = rw (is, ← power-power 2 t i) (shifted-quotient p (2 ^ t) word i)

pub overflow_sub-result : goal.overflow_sub-result
overflow_sub-result c =
    under c.args.s.p c.args.s.t c.args.word c.args.i c.requires.1

pub returns : goal.returns
returns c =
    left c.args.s.p c.args.s.t c.args.word c.args.i c.requires.1
