-- `smallest_width` meets its contract: the search from 1 is the search from t, at every turn. Assumes nothing.
use Rattle.std.proofs.Common.{◌≡◌, ◌-◌}
use Rattle.polynomials.specs.Indices.{first}
use Rattle.settings.specs.Choices.{escapes, smallest_width}
use Rattle.settings.proofs.setting.smallest_width.Given as goal

abbrev pub invariant-loop-t : goal.invariant-loop-t
invariant-loop-t l = smallest_width l.p l.k l.n ≡ first (escapes l.p l.k l.n) (64 - l.t) l.t
