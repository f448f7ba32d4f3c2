-- `vanishes` meets its contract: the values at the first j roots are zero. Assumes nothing.
use Rattle.std.proofs.Common.{ℕ, ◌+◌, List}
use Rattle.polynomials.specs.IndexLaws.{NoneBefore}
use Rattle.labels.specs.Labels.{value_at}
use Rattle.labels.proofs.roots.vanishes.Given as goal

-- the values at the roots, among which one above zero is searched
abbrev pub values : List ℕ → ℕ → ℕ
values a i = value_at a (i + 1)

abbrev pub none : ℕ → ℕ
none i = 0

abbrev pub invariant-loop-j : goal.invariant-loop-j
invariant-loop-j l = NoneBefore l.m (values l.a) none l.j
