-- `put_list` meets its promise: after each turn the numbers so far stand. Assumes nothing.
use Rattle.std.proofs.Common.{map, take}
use Rattle.texts.specs.Putting.{spaced, Puts}
use Rattle.texts.proofs.putting.put_list.Given as goal

abbrev pub invariant-loop-n : goal.invariant-loop-n
invariant-loop-n g l = Puts l.initial.next (spaced (map (g.T.Whole.value) (take l.n-index l.ns))) l.initial.out l.next l.out
