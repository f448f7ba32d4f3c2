-- `seek` meets its promise: the search from i is the search from where it stands, at every turn. Assumes nothing.
use Rattle.std.proofs.Common.{◌≡◌, refl, sym, ◌∙◌, arith, length}
use Rattle.polynomials.specs.IndexLaws.{first_found, first-passed, first_ended}
use Rattle.texts.specs.Kinds.{passes_at, place_where}
use Rattle.texts.proofs.kinds.seek.Goals as goal

pub loop-at-init : goal.loop-at-init
unfolding place_where
loop-at-init g c = (omega arith, refl)

pub returns-then-wants : goal.returns-then-wants
returns-then-wants g c =
    let l = c.loop-at in
    let text = c.args.text.now in
    let test = g.T.Wanted.wants c.args.what in
    sym (l.invariant.1 ∙ first_found (passes_at test text) (length text) l.at (omega arith) (sym c.wants.ensures ∙ c.if-wants.true))

pub loop-at-preserved : goal.loop-at-preserved
loop-at-preserved g c =
    let l = c.loop-at in
    let text = c.args.text.now in
    let test = g.T.Wanted.wants c.args.what in
    (omega arith, l.invariant.1 ∙ first-passed (passes_at test text) (length text) l.at (omega arith) (sym c.wants.ensures ∙ c.if-wants.false))

pub returns : goal.returns
returns g c =
    let text = c.args.text.now in
    let l = c.loop-at in
    let test = g.T.Wanted.wants c.args.what in
    let ends : c.max.result ≡ l.at = omega (arith, c.max.ensures) in
    ends ∙ sym (l.invariant.1 ∙ first_ended (passes_at test text) (length text) l.at (omega arith))
