-- `split_fields` meets its contract: after i turns the first i fields stand, and the rest of the word is what stands from place i on. Assumes nothing.
use Rattle.std.proofs.Common.{ℕ, ◌/◌, ◌%◌, ap, ◌∙◌, arith, length-set}
use Rattle.polynomials.specs.IndexLaws.{filled_more}
use Rattle.polynomials.specs.Places.{field}
use Rattle.polynomials.specs.PlaceLaws.{field_next}
use Rattle.settings.specs.Settings.{base}
use Rattle.words.proofs.fields.split_fields.Goals as goal

pub loop-i-preserved : goal.loop-i-preserved
loop-i-preserved c =
    let a = c.args in
    let l = c.loop-i in
    let q = base a.s.setting in (
      filled_more (field q a.word) a.out.now l.out l.i (l.rest % c.base-q.result) (omega arith) l.invariant.0 (rw (l.invariant.2, c.base-q.ensures)),
      simp length-set l.invariant.1,
      ap (λ (n : ℕ). n / q) l.invariant.2 ∙ field_next q a.word l.i,
    )
