-- `divide` meets its contract: with i steps to come the rest of the division gives what the whole does. Assumes nothing.
use Rattle.labels.specs.DivisionSteps.{Halfway}
use Rattle.labels.proofs.division.divide.Given as goal

abbrev pub invariant-loop-i : goal.invariant-loop-i
invariant-loop-i l = Halfway l.g l.initial.rest l.i l.rest
