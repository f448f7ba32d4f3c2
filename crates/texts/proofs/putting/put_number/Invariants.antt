-- `put_number` meets its promise: in each turn the digits from place i on stand. Assumes nothing.
use Rattle.std.proofs.Common.{◌≡◌}
use Rattle.texts.specs.PuttingLaws.{DigitsFrom}
use Rattle.texts.proofs.putting.put_number.Given as goal

abbrev pub invariant-loop-rest : goal.invariant-loop-rest
invariant-loop-rest l = (l.out ≡ l.initial.out) × DigitsFrom l.n l.i l.rest l.bytes

abbrev pub decreases-loop-rest : goal.decreases-loop-rest
decreases-loop-rest l = l.i
