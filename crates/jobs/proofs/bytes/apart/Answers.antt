-- `apart` meets its contract: at every turn r pairs have been taken apart. Assumes nothing.
use Rattle.std.proofs.Common.{◌∙◌}
use Rattle.jobs.specs.Jobs.{coefficients_in}
use Rattle.jobs.specs.ByteLaws.{apart_more}
use Rattle.jobs.proofs.bytes.apart.Goals as goal

pub loop-r-preserved : goal.loop-r-preserved
loop-r-preserved c =
    let a = c.args in
    let l = c.loop-r in
    let x = c.copy in
    let y = c.copy-in-loop-r in
    (x.auto.out ∙ l.invariant.0, y.auto.out ∙ l.invariant.1, apart_more a.k l.r (coefficients_in a.bytes.now) l.xs l.ys x.new.out y.new.out l.invariant.2 x.ensures y.ensures)
