-- `gather` meets its contract: before each turn the first z columns are in the sums. Assumes nothing.
use Rattle.packed.specs.GatherLaws.{Gathered}
use Rattle.packed.proofs.columns.gather.Given as goal

abbrev pub invariant-loop-z : goal.invariant-loop-z
invariant-loop-z l = Gathered l.s.setting l.a l.b l.initial.sums l.sums l.z
