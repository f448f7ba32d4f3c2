-- `smallest_width` meets its contract: the search from 1 is the search from t, at every turn. Assumes nothing.
use Rattle.std.proofs.Common.{refl, sym, ◌∙◌, arith, ◌≡◌, lt-ltb, le-ltb}
use Rattle.polynomials.specs.IndexLaws.{first_found, first-passed, first_ended}
use Rattle.settings.specs.Choices.{escapes, smallest_width, none_cause}
use Rattle.settings.proofs.setting.smallest_width.Goals as goal

pub loop-t-init : goal.loop-t-init
unfolding smallest_width
loop-t-init c = refl

pub returns-then-escapes : goal.returns-then-escapes
unfolding none_cause
returns-then-escapes c =
    let a = c.args in
    let t = c.loop-t.t in
    let at : smallest_width a.p a.k a.n ≡ t = c.loop-t.invariant ∙ first_found (escapes a.p a.k a.n) 64 t (omega arith) (sym c.escapes.ensures ∙ c.if-escapes.true) in
    rw (at, le-ltb 63 t (omega arith))

pub loop-t-preserved : goal.loop-t-preserved
loop-t-preserved c =
    let a = c.args in
    let t = c.loop-t.t in
    c.loop-t.invariant ∙ first-passed (escapes a.p a.k a.n) 64 t (omega arith) (sym c.escapes.ensures ∙ c.if-escapes.false)

pub returns : goal.returns
unfolding none_cause
returns c =
    let a = c.args in
    let at : smallest_width a.p a.k a.n ≡ c.loop-t.t = c.loop-t.invariant ∙ first_ended (escapes a.p a.k a.n) 64 c.loop-t.t (omega arith) in
    rw (at, lt-ltb 63 c.loop-t.t (omega arith))
