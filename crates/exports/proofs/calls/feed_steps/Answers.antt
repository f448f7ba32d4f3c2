-- `feed_steps` meets its contract: after each turn, what was fed is the lists up to a place, as one call would have it. Assumes nothing.
use Rattle.std.proofs.Common.{◌+◌, ◌≡◌, take, arith, length-take}
use lib.Seq.{take_all}
use Rattle.exports.specs.SumLaws.{FedTo, fed-none, fed-part, fed-few, fed-to}
use Rattle.exports.proofs.calls.feed_steps.Goals.{In-Ok}
use Rattle.exports.proofs.calls.feed_steps.Goals as goal

pub loop-at-init : goal.loop-at-init
loop-at-init c = fed-none c.args.running c.requires.0

pub returns-in_default : goal.returns-in_default
returns-in_default c = c.feed.ensures

-- the calls so far and this one, as one call
further : (c : In-Ok) → FedTo c.args.running (take (c.loop-at.at + c.min.result) c.args.xs.now) (take (c.loop-at.at + c.min.result) c.args.ys.now) c.feed-fed.result.running (c.loop-at.pairs + c.in-Ok.more)
further c =
    let a = c.args in
    let l = c.loop-at in
    let feed = c.feed-fed in
    let more = c.in-Ok.more in
    let end = l.at + c.min.result in
    fed-part a.running a.xs.now a.ys.now l.at end l.so_far feed.result.running l.pairs more (omega arith) l.invariant (fed-to l.so_far _ _ feed.result more feed.ensures c.in-Ok.is)

pub overflow_add-pairs : goal.overflow_add-pairs
overflow_add-pairs c =
    let a = c.args in
    let end = c.loop-at.at + c.min.result in
    let few = fed-few a.running (take end a.xs.now) (take end a.ys.now) _ _ (further c) in
    record { fits = omega (arith, few, length-take end a.xs.now) }

pub loop-at-preserved : goal.loop-at-preserved
loop-at-preserved c =
    let whole : c.min.result ≡ c.args.step = omega (arith, c.min.ensures) in
    rw whole at (further (goal.at.loop-at-preserved c).In-Ok)

-- the last call has what is left
pub returns-in-Ok : goal.returns-in-Ok
returns-in-Ok c =
    let a = c.args in
    let end = c.loop-at.at + c.min.result in
    rw (take_all end a.xs.now (omega (arith, c.min.ensures)), take_all end a.ys.now (omega (arith, c.min.ensures))) at (further (goal.at.returns-in-Ok c).In-Ok)

pub returns : goal.returns
returns c =
    let a = c.args in
    let l = c.loop-at in
    rw (take_all l.at a.xs.now (omega arith), take_all l.at a.ys.now (omega arith)) at l.invariant
