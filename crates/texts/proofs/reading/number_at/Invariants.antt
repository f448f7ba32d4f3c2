-- `number_at` meets its contract: the digits up to where it stands come to value, which is not above most. Assumes nothing.
use Rattle.std.proofs.Common.{◌≤◌}
use Rattle.texts.specs.RunLaws.{Going}
use Rattle.texts.proofs.reading.number_at.Given as goal

abbrev pub invariant-loop-end : goal.invariant-loop-end
invariant-loop-end l = Going l.text l.i l.value l.end × (l.value ≤ l.most)
