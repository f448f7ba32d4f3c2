-- The powers of `powers` fit: they stay below the modulus. Assumes nothing.
use Rattle.std.proofs.Common.{◌<◌}
use Rattle.calc.proofs.made.powers.Given as goal

abbrev pub invariant-loop-place : goal.invariant-loop-place
invariant-loop-place l = l.power < l.modulus
