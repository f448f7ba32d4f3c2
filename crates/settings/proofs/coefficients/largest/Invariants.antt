-- `largest` meets its contract: after i turns none of the first i coefficients is above. Assumes nothing.
use Rattle.std.proofs.Common.{ℕ, ◌≤◌, ◌<◌}
use Rattle.polynomials.specs.Lists.{coefficient}
use Rattle.settings.proofs.coefficients.largest.Given as goal

abbrev pub invariant-loop-x : goal.invariant-loop-x
invariant-loop-x l = (j : ℕ) → j < l.x-index → coefficient l.xs j ≤ l.most
