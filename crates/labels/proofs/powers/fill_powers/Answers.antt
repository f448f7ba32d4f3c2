-- `fill_powers` meets its contract: after i turns the first i powers stand, and e is the exponent of the next. Assumes nothing.
use Rattle.std.proofs.Common.{◌≡◌, ◌∙◌, arith, length-set}
use Rattle.polynomials.specs.IndexLaws.{filled_more}
use Rattle.polynomials.specs.Lists.{coefficient}
use Rattle.labels.specs.Working.{power_at}
use Rattle.labels.specs.RootLaws.{exponent-next, exponent-power}
use Rattle.labels.proofs.powers.fill_powers.Goals.{In-loop-i, then-e-ge-CYCLE, else-e-ge-CYCLE}
use Rattle.labels.proofs.powers.fill_powers.Goals as goal

pub loop-i-preserved : goal.loop-i-preserved
loop-i-preserved c =
    let a = c.args in
    let l = c.loop-i in
    let next = exponent-next a.j l.i l.e c.requires l.invariant.0 in
    let here : coefficient a.powers.now.table l.e ≡ power_at a.j l.i = rw a.powers.now.all (exponent-power a.j l.i l.e (omega (arith, l.invariant.0)) l.invariant.0) in (
      elim c.if-e-ge-CYCLE.branch [ then-e-ge-CYCLE w ↦ w.e-is ∙ next.1 w.if-e-ge-CYCLE.true | else-e-ge-CYCLE w ↦ w.e-is ∙ next.0 w.if-e-ge-CYCLE.false ],
      filled_more (power_at a.j) a.out.now l.out l.i (coefficient a.powers.now.table l.e) (omega (arith, l.invariant.2)) l.invariant.1 here,
      simp length-set l.invariant.2,
    )
