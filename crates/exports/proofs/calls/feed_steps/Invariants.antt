-- `feed_steps` meets its contract: after each turn, what was fed is the lists up to a place, as one call would have it. Assumes nothing.
use Rattle.std.proofs.Common.{take}
use Rattle.exports.specs.SumLaws.{FedTo}
use Rattle.exports.proofs.calls.feed_steps.Given as goal

abbrev pub invariant-loop-at : goal.invariant-loop-at
invariant-loop-at l = FedTo l.running (take l.at l.xs) (take l.at l.ys) l.so_far l.pairs
