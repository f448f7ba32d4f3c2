-- `largest` meets its contract: after every block of 16 what is above all bounds is above the coefficients so far. Assumes nothing.
use Rattle.std.proofs.Common.{◌≡◌, ◌+◌, ◌*◌, ◌∙◌, arith}
use Rattle.settings.specs.Coefficients.{none-above-all}
use Rattle.jobs.specs.Jobs.{coefficients_in}
use Rattle.jobs.specs.ByteLaws.{length-coefficients_in, bounded-more}
use Rattle.jobs.proofs.bytes.largest.Goals as goal

pub loop-block-preserved : goal.loop-block-preserved
loop-block-preserved c =
    let l = c.loop-block in
    let cs = coefficients_in c.args.bytes.now in
    let next : 16 * (l.block + 1) ≡ 16 * l.block + 16 = omega arith in
    (c.raise.auto.bounds ∙ l.invariant.0, rw next (bounded-more cs (16 * l.block) 16 l.bounds c.raise.new.bounds l.invariant.1 c.raise.ensures))

pub returns : goal.returns
returns c =
    let cs = coefficients_in c.args.bytes.now in
    none-above-all cs c.loop-i.i c.loop-i.most (omega (arith, length-coefficients_in c.args.bytes.now)) c.loop-i.invariant
