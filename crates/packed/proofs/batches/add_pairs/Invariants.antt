-- `add_pairs` meets its contract: after i pairs the sum is that of the first i, and 18 was not given. Assumes nothing.
use Rattle.std.proofs.Common.{◌-◌}
use Rattle.packed.specs.FeedLaws.{FedSoFar}
use Rattle.packed.proofs.batches.add_pairs.Given as goal

abbrev pub invariant-loop-i : goal.invariant-loop-i
invariant-loop-i l = FedSoFar l.s.setting l.fn.sum l.xs l.ys l.so_far l.held l.i

abbrev pub decreases-loop-i : goal.decreases-loop-i
decreases-loop-i l = l.pairs - l.i
