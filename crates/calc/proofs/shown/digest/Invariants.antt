-- The sum of `digest` fits: it stays below the modulus. Assumes nothing.
use Rattle.std.proofs.Common.{◌<◌}
use Rattle.calc.proofs.shown.digest.Given as goal

abbrev pub invariant-loop-x : goal.invariant-loop-x
invariant-loop-x g l = l.sum < 1000003
