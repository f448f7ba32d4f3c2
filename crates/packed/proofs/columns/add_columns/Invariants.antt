-- `add_columns` meets its contract: before each batch the columns' worth of the products done so far is added. A batch has at most n products, and
-- that many fit. Assumes nothing.
use Rattle.std.proofs.Common.{◌≤◌}
use Rattle.packed.specs.Gathering.{AddsColumns}
use Rattle.packed.proofs.columns.add_columns.Given as goal

abbrev pub invariant-loop-done : goal.invariant-loop-done
invariant-loop-done l = (l.done ≤ l.count) × AddsColumns l.s.setting l.xs l.ys l.i l.j l.done l.at l.initial.sums l.sums
