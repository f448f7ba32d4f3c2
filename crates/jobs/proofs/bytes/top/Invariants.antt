-- `top` meets its contract: none of the bounds before this one is above. Assumes nothing.
use Rattle.std.proofs.Common.{ℕ, ◌≤◌, ◌<◌}
use Rattle.polynomials.specs.Lists.{coefficient}
use Rattle.jobs.proofs.bytes.top.Given as goal

abbrev pub invariant-loop-bound : goal.invariant-loop-bound
invariant-loop-bound l = (j : ℕ) → j < l.bound-index → coefficient l.fn.bounds j ≤ l.most
