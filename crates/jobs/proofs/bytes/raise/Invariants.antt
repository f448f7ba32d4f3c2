-- `raise` meets its contract: after j turns the first j bounds have been raised. Assumes nothing.
use Rattle.std.proofs.Common.{◌≡◌, length}
use Rattle.jobs.specs.Jobs.{coefficients_in}
use Rattle.jobs.specs.Apart.{Raised}
use Rattle.jobs.proofs.bytes.raise.Given as goal

abbrev pub invariant-loop-j : goal.invariant-loop-j
invariant-loop-j l = (length l.bounds ≡ 16) × Raised (coefficients_in l.bytes) l.i l.j l.initial.bounds l.bounds
