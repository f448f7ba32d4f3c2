-- `add_residues` meets its contract: after j turns the first j sums stand, and the rest of the word is what stands from place j on. Assumes nothing.
use Rattle.std.proofs.Common.{ℕ, ◌/◌, ◌+◌, ◌%◌, ap, ◌∙◌, arith, length-set}
use Rattle.polynomials.specs.IndexLaws.{filled_more}
use Rattle.polynomials.specs.PlaceLaws.{field_next}
use Rattle.settings.specs.Settings.{base}
use Rattle.packed.specs.Running.{closing_of}
use Rattle.packed.proofs.batches.add_residues.Goals as goal

pub loop-j-preserved : goal.loop-j-preserved
loop-j-preserved c =
    let a = c.args in
    let l = c.loop-j in
    let p = a.s.setting.p in
    let q = base a.s.setting in (
      filled_more (closing_of p q a.word a.residues.now) a.out.now l.out l.j ((c.from.result + l.rest % c.base-q.result) % p) (omega arith) l.invariant.0 (rw (c.from.ensures, l.invariant.2, c.base-q.ensures)),
      simp length-set l.invariant.1,
      ap (λ (n : ℕ). n / q) l.invariant.2 ∙ field_next q a.word l.j,
    )
