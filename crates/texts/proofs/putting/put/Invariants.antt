-- `put` meets its promise: after i turns the first i bytes stand. Assumes nothing.
use Rattle.std.proofs.Common.{◌+◌, ◌≤◌, length, take}
use Rattle.texts.specs.Putting.{Puts}
use Rattle.texts.proofs.putting.put.Given as goal

abbrev pub invariant-loop-i : goal.invariant-loop-i
invariant-loop-i l = (l.at + l.i ≤ length l.initial.out) × Puts l.at (take l.i l.text) l.initial.out (l.at + l.i) l.out
