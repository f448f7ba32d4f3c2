-- `feed_block` meets its contract. Assumes nothing.
use Rattle.std.proofs.Common.{◌≡◌, length, arith, rules}
use Rattle.jobs.specs.AddingLaws.{k-some, k_few}
use Rattle.jobs.specs.FeedLaws.{parting, fed-block}
use Rattle.jobs.proofs.adding.feed_block.Goals.{After-take_apart}
use Rattle.jobs.proofs.adding.feed_block.Goals as goal

pub pair_bytes-requires : goal.pair_bytes-requires
pair_bytes-requires c = k_few c.args.running.setting c.args.running.sum c.requires.feedable.coherent

pub nonzero_div-m : goal.nonzero_div-m
nonzero_div-m c = rw c.pair_bytes.ensures (omega (arith, k-some c.args.running.setting c.args.running.sum c.requires.feedable.coherent))

pub take_apart-requires : goal.take_apart-requires
take_apart-requires c = rw c.pair_bytes.ensures (parting c.args.running.setting c.args.running.sum c.args.bytes.now c.requires, search rules, search rules)

-- the arrays keep their length
xs-size : (c : After-take_apart) → length c.take_apart.new.xs ≡ 2048
xs-size c = omega (arith, c.take_apart.auto.xs)

ys-size : (c : After-take_apart) → length c.take_apart.new.ys ≡ 2048
ys-size c = omega (arith, c.take_apart.auto.ys)

pub returns : goal.returns
returns c =
    let t = c.take_apart in
    let apart = rw c.pair_bytes.ensures at t.ensures in
    fed-block c.args.running.setting c.args.running.sum c.args.bytes.now c.requires t.new.xs t.new.ys (xs-size (goal.at.returns c).After-take_apart) (ys-size (goal.at.returns c).After-take_apart) apart c.feed.result (rw c.pair_bytes.ensures at c.feed.ensures)
