-- `vanishes` meets its contract: the values at the first j roots are zero. Assumes nothing.
use Rattle.std.proofs.Common.{sym, ap, arith, not}
use Rattle.polynomials.specs.IndexLaws.{exceeds-passed, exceeds-found, exceeds-through}
use Rattle.labels.specs.Labels.{vanishing}
use Rattle.labels.proofs.roots.vanishes.Invariants.{none, values}
use Rattle.labels.proofs.roots.vanishes.Goals as goal

pub returns-then-value_at-gt0 : goal.returns-then-value_at-gt0
unfolding vanishing
returns-then-value_at-gt0 c =
    let a = c.args in
    let l = c.loop-j in
    ap not (sym (exceeds-found a.m (values a.a.now) none l.j (omega (arith, c.loop-j-test.true)) (rw c.value_at.ensures at c.if-value_at-gt0.true) l.invariant))

pub loop-j-preserved : goal.loop-j-preserved
loop-j-preserved c =
    let a = c.args in
    let l = c.loop-j in
    exceeds-passed a.m (values a.a.now) none l.j (omega (arith, c.loop-j-test.true)) (rw c.value_at.ensures at c.if-value_at-gt0.false) l.invariant

pub returns : goal.returns
unfolding vanishing
returns c =
    let a = c.args in
    ap not (sym (exceeds-through a.m (values a.a.now) none c.loop-j.j (omega (arith, c.loop-j-test.false)) c.loop-j.invariant))
