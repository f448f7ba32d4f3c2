-- `search` meets its contract: the search from 0 is the search from i, at every turn. Assumes nothing.
use Rattle.std.proofs.Common.{◌≡◌, ◌-◌, ◌/◌, length}
use Rattle.polynomials.specs.Indices.{first}
use Rattle.settings.specs.Coefficients.{too_large, first_bad}
use Rattle.jobs.specs.Jobs.{coefficients_in}
use Rattle.jobs.proofs.bytes.search.Given as goal

abbrev pub invariant-loop-i : goal.invariant-loop-i
invariant-loop-i l = first_bad l.p (coefficients_in l.bytes) ≡ first (too_large l.p (coefficients_in l.bytes)) (length l.bytes / 2 - l.i) l.i
