-- `fields_cause` meets its contract: before place j no field is above its bound, and the rest of the word is what stands from there on. Assumes nothing.
use Rattle.std.proofs.Common.{ℕ, ◌≡◌, ◌/◌, ◌%◌, sym, ap, ◌∙◌, arith}
use Rattle.polynomials.specs.IndexLaws.{exceeds-passed, exceeds-found, exceeds-through}
use Rattle.polynomials.specs.Places.{field}
use Rattle.polynomials.specs.PlaceLaws.{field_next}
use Rattle.settings.specs.Settings.{base, places}
use Rattle.packed.specs.Running.{field_most}
use Rattle.packed.proofs.running.fields_cause.Goals.{After-field_most}
use Rattle.packed.proofs.running.fields_cause.Goals as goal

-- what the code compares with its bound is the field
field_is : (c : After-field_most) → c.loop-j.rest % c.base-q.result ≡ field (base c.args.s.setting) c.args.word c.loop-j.j
field_is c = rw (c.loop-j.invariant.rest-is, c.base-q.ensures)

pub returns-then-field_most-rest : goal.returns-then-field_most-rest
returns-then-field_most-rest c =
    let a = c.args in
    let s = a.s.setting in
    sym (exceeds-found (places s) (field (base s) a.word) (field_most s a.pairs) c.loop-j.j (omega (arith, c.places-j-end.ensures)) (rw (c.field_most.ensures, field_is (goal.at.returns-then-field_most-rest c).After-field_most) at c.if-field_most-rest.true) c.loop-j.invariant.none)

pub loop-j-preserved : goal.loop-j-preserved
loop-j-preserved c =
    let a = c.args in
    let s = a.s.setting in
    let l = c.loop-j in
    record {
      rest-is = ap (λ (n : ℕ). n / base s) l.invariant.rest-is ∙ field_next (base s) a.word l.j;
      none = exceeds-passed (places s) (field (base s) a.word) (field_most s a.pairs) l.j (omega (arith, c.places-j-end.ensures)) (rw (c.field_most.ensures, field_is (goal.at.loop-j-preserved c).After-field_most) at c.if-field_most-rest.false) l.invariant.none;
    }

pub returns : goal.returns
returns c =
    let a = c.args in
    let s = a.s.setting in
    sym (exceeds-through (places s) (field (base s) a.word) (field_most s a.pairs) c.loop-j.j (omega (arith, c.places-j-end.ensures)) c.loop-j.invariant.none)
