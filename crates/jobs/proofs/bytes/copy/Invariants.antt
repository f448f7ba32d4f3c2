-- `copy` meets its contract: at every turn r coefficients have been put, and what stands before place j is as it was. Assumes nothing.
use Rattle.std.proofs.Common.{◌≡◌, length}
use Rattle.jobs.specs.Jobs.{coefficients_in}
use Rattle.jobs.specs.Apart.{Copied}
use Rattle.jobs.proofs.bytes.copy.Given as goal

abbrev pub invariant-loop-r : goal.invariant-loop-r
invariant-loop-r l = (length l.out ≡ length l.initial.out) × Copied (coefficients_in l.bytes) l.i l.j l.r l.initial.out l.out
