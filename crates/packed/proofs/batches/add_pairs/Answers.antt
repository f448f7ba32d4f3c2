-- `add_pairs` meets its contract: after i pairs the sum is that of the first i, and 18 was not given. Assumes nothing.
use Rattle.std.proofs.Common.{ap, Ok}
use Rattle.packed.specs.FeedLaws.{so-far-none, so-far-batch, so_far_more, so-far-all}
use Rattle.packed.proofs.batches.add_pairs.Goals as goal

pub loop-i-init : goal.loop-i-init
loop-i-init c = so-far-none c.requires

pub add_batch-so_far-requires : goal.add_batch-so_far-requires
add_batch-so_far-requires c = so-far-batch c.requires c.loop-i.invariant c.loop-i-test.true c.min-count.ensures

pub loop-i-preserved : goal.loop-i-preserved
loop-i-preserved c = so_far_more c.requires c.loop-i.invariant c.loop-i-test.true c.min-count.ensures c.add_batch-so_far.ensures c.reopened-held.ensures

pub returns : goal.returns
returns c = ap Ok (so-far-all c.requires c.loop-i.invariant c.loop-i-test.false)
