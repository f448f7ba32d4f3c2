-- `add_products` meets its contract: after r turns the products of the first r pairs are added, which is no more than all of them. Assumes nothing.
use Rattle.std.proofs.Common.{arith}
use Rattle.doubles.specs.Exactly.{held, zero_is}
use Rattle.lane.specs.SumLaws.{sum-all, left-packing, right-packing, pair-times, pair-plus, pair-next}
use Rattle.lane.proofs.sums.add_products.Goals as goal

pub loop-r-init : goal.loop-r-init
loop-r-init c = (omega arith, rw zero_is (held 0 (omega arith)))

pub pack_double-left-requires : goal.pack_double-left-requires
pack_double-left-requires c = left-packing c.requires c.loop-r-test.true

pub pack_double-right-requires : goal.pack_double-right-requires
pack_double-right-requires c = right-packing c.requires c.loop-r-test.true

pub times-requires : goal.times-requires
times-requires c = pair-times c.requires c.loop-r-test.true c.pack_double-left.ensures c.pack_double-right.ensures

pub plus-sum-requires : goal.plus-sum-requires
plus-sum-requires c = pair-plus c.requires c.loop-r-test.true c.pack_double-left.ensures c.pack_double-right.ensures c.loop-r.invariant.1 c.times.ensures

pub loop-r-preserved : goal.loop-r-preserved
loop-r-preserved c = (
  omega (arith, c.loop-r-test.true),
  pair-next c.requires c.loop-r-test.true c.pack_double-left.ensures c.pack_double-right.ensures c.loop-r.invariant.1 c.times.ensures c.plus-sum.ensures,
)

pub returns : goal.returns
returns c = sum-all c.requires c.loop-r.invariant.0 c.loop-r-test.false c.loop-r.invariant.1
