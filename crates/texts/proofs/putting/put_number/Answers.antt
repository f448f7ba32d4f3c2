-- `put_number` meets its promise: in each turn the digits from place i on stand. Assumes nothing.
use Rattle.std.proofs.Common.{refl, rules}
use Rattle.texts.specs.PuttingLaws.{digits-none, digits-turn, digits-all}
use Rattle.texts.proofs.putting.put_number.Goals as goal

pub loop-rest-init : goal.loop-rest-init
loop-rest-init c = (refl, digits-none c.args.n (search rules))

pub returns-then-rest-eq0 : goal.returns-then-rest-eq0
returns-then-rest-eq0 c =
    let l = c.loop-rest in
    let all = digits-all c.args.n l.i l.rest l.bytes l.invariant.1 c.if-rest-eq0.true in
    rw (all, l.invariant.0) at c.put.ensures

pub loop-rest-preserved : goal.loop-rest-preserved
loop-rest-preserved c =
    let l = c.loop-rest in
    (l.invariant.0, digits-turn c.args.n l.i l.rest l.bytes l.invariant.1 c.if-rest-eq0.false)
