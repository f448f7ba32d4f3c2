-- `add_products` meets its contract: after r turns the products of the first r pairs are added, which is no more than all of them. Assumes nothing.
use Rattle.std.proofs.Common.{◌-◌, ◌/◌, ◌≤◌, length}
use Rattle.doubles.specs.Whole.{Held}
use Rattle.lane.specs.SumLaws.{sum_so_far}
use Rattle.lane.proofs.sums.add_products.Given as goal

abbrev pub invariant-loop-r : goal.invariant-loop-r
invariant-loop-r l = (l.r ≤ length l.xs / l.lane.setting.k) × Held l.sum (sum_so_far l.lane.setting l.xs l.ys l.r)

abbrev pub decreases-loop-r : goal.decreases-loop-r
decreases-loop-r l = l.pairs - l.r
