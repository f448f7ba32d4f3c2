-- `apart` meets its contract: at every turn r pairs have been taken apart. Assumes nothing.
use Rattle.std.proofs.Common.{◌≡◌, length}
use Rattle.jobs.specs.Jobs.{coefficients_in}
use Rattle.jobs.specs.Apart.{TakenApart}
use Rattle.jobs.proofs.bytes.apart.Given as goal

abbrev pub invariant-loop-r : goal.invariant-loop-r
invariant-loop-r l = (length l.xs ≡ length l.initial.xs) × (length l.ys ≡ length l.initial.ys) × TakenApart l.k l.r (coefficients_in l.bytes) l.xs l.ys
