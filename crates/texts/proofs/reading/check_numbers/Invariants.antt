-- `check_numbers` meets its contract: no place before i is bad, and n numbers stand there. Assumes nothing.
use Rattle.std.proofs.Common.{◌-◌, length}
use Rattle.texts.specs.RunLaws.{Sought}
use Rattle.texts.proofs.reading.check_numbers.Given as goal

abbrev pub invariant-loop-i : goal.invariant-loop-i
invariant-loop-i l = Sought l.most l.room l.text l.i l.n

abbrev pub decreases-loop-i : goal.decreases-loop-i
decreases-loop-i l = length l.text - l.i
