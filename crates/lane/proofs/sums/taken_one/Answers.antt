-- `taken_one` meets its contract. Assumes nothing.
use Rattle.std.proofs.Common.{arith}
use Rattle.doubles.specs.Exactly.{held}
use Rattle.packed.specs.Taken.{taken_one}
use Rattle.lane.proofs.sums.taken_one.Goals as goal

pub returns : goal.returns
unfolding taken_one
returns c = held c.args.x (omega (arith, c.ranges.x))
