-- `largest` meets its contract: after every block of 16 what is above all bounds is above the coefficients so far. Assumes nothing.
use Rattle.std.proofs.Common.{ℕ, ◌≡◌, ◌*◌, ◌≤◌, ◌<◌, length}
use Rattle.polynomials.specs.Lists.{coefficient}
use Rattle.jobs.specs.Jobs.{coefficients_in}
use Rattle.jobs.specs.ByteLaws.{Bounded}
use Rattle.jobs.proofs.bytes.largest.Given as goal

abbrev pub invariant-loop-block : goal.invariant-loop-block
invariant-loop-block l = (length l.bounds ≡ 16) × Bounded (coefficients_in l.bytes) (16 * l.block) l.bounds

abbrev pub invariant-loop-i : goal.invariant-loop-i
invariant-loop-i l = (j : ℕ) → j < l.i → coefficient (coefficients_in l.bytes) j ≤ l.most
