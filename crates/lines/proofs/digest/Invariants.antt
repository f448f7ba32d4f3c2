-- `digest` forms no number above 64 bits. Assumes nothing.
use Rattle.std.proofs.Common.{◌<◌}
use Rattle.lines.proofs.digest.Given as goal

abbrev pub invariant-loop-x : goal.invariant-loop-x
invariant-loop-x l = l.sum < 1000003
