-- `put` meets its promise: after i turns the first i bytes stand. Assumes nothing.
use Rattle.std.proofs.Common.{add-zero, arith}
use Rattle.texts.specs.PuttingLaws.{puts-nothing, puts-no-room, put_byte, put-cut}
use Rattle.texts.proofs.putting.put.Goals as goal

pub returns-then-size-at : goal.returns-then-size-at
returns-then-size-at c = puts-no-room c.args.at c.args.text.now c.args.out.now (omega arith) (omega arith)

pub loop-i-init : goal.loop-i-init
loop-i-init c = (omega arith, rw add-zero (puts-nothing c.args.at c.args.out.now (omega arith)))

pub returns-then-size-place : goal.returns-then-size-place
returns-then-size-place c = put-cut c.args.text.now c.loop-i.i c.loop-i-test.true c.loop-i.invariant.1 c.if-size-place.true

pub loop-i-preserved : goal.loop-i-preserved
loop-i-preserved c = (omega arith, put_byte c.args.text.now c.loop-i.i c.loop-i-test.true c.loop-i.invariant.1 c.if-size-place.false)
