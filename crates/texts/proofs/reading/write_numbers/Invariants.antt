-- `write_numbers` meets its contract: the numbers before place i stand in the list. Nothing is bad, so looking at a number never finds it too large.
-- Assumes nothing.
use Rattle.std.proofs.Common.{◌-◌, length}
use Rattle.texts.specs.RunLaws.{Writing}
use Rattle.texts.proofs.reading.write_numbers.Given as goal

abbrev pub invariant-loop-i : goal.invariant-loop-i
invariant-loop-i l = Writing l.text l.i l.n l.initial.out l.out

abbrev pub decreases-loop-i : goal.decreases-loop-i
decreases-loop-i l = length l.text - l.i
