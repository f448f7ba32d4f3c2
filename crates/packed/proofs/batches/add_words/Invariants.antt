-- `add_words` meets its contract: after r pairs their products are added, which is no more than all of them. Assumes nothing.
use Rattle.std.proofs.Common.{◌≡◌, ◌+◌, ◌-◌, ◌≤◌}
use Rattle.packed.specs.FedPairs.{products}
use Rattle.packed.proofs.batches.add_words.Given as goal

abbrev pub invariant-loop-r : goal.invariant-loop-r
invariant-loop-r l = (l.r ≤ l.count) × (l.sum ≡ l.word + products l.p l.t l.k l.xs l.ys l.i l.r)

abbrev pub decreases-loop-r : goal.decreases-loop-r
decreases-loop-r l = l.count - l.r
