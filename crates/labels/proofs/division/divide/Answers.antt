-- `divide` meets its contract: with i steps to come the rest of the division gives what the whole does. Assumes nothing.
use Rattle.labels.specs.DivisionSteps.{division-turn, division-ended}
use Rattle.labels.proofs.division.divide.Goals as goal

pub loop-i-preserved : goal.loop-i-preserved
loop-i-preserved c =
    let l = c.loop-i in
    let w = c.cancel in
    division-turn c.args.g.now c.args.rest.now c.requires l.i l.rest l.invariant c.loop-i-test.true w.new.part w.ensures

pub returns : goal.returns
returns c =
    let l = c.loop-i in
    division-ended c.args.g.now c.args.rest.now c.requires l.i l.rest l.invariant c.loop-i-test.false
