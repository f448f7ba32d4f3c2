-- `fill_powers` meets its contract: after i turns the first i powers stand, and e is the exponent of the next. Assumes nothing.
use Rattle.std.proofs.Common.{◌*◌, ◌%◌, ◌≡◌, length}
use Rattle.polynomials.specs.Indices.{filled}
use Rattle.labels.specs.Labels.{cycle}
use Rattle.labels.specs.Working.{power_at}
use Rattle.labels.proofs.powers.fill_powers.Given as goal

abbrev pub invariant-loop-i : goal.invariant-loop-i
invariant-loop-i l = (l.e ≡ l.j * l.i % cycle) × (l.out ≡ filled l.i (power_at l.j) l.initial.out) × (length l.out ≡ length l.initial.out)
