-- `corrected` meets its contract. Assumes nothing.
use Rattle.lane.specs.ResidueLaws.{carry-times, carry-remainder, lower-plus, lower-less, lower-is, upper-less, upper_is}
use Rattle.lane.proofs.residues.corrected.Goals as goal

pub times-requires : goal.times-requires
times-requires c = carry-times c.requires

pub remainder-taken-requires : goal.remainder-taken-requires
remainder-taken-requires c = carry-remainder c.requires c.times.ensures

pub plus-requires : goal.plus-requires
plus-requires c = lower-plus c.requires c.times.ensures c.remainder-taken.ensures

pub less-requires : goal.less-requires
less-requires c = lower-less c.requires c.times.ensures c.remainder-taken.ensures c.plus.ensures

pub returns-then-u-taken : goal.returns-then-u-taken
returns-then-u-taken c =
    lower-is c.requires c.times.ensures c.remainder-taken.ensures c.plus.ensures c.if-u-taken.true c.less.ensures

pub less-requires-else-u-taken : goal.less-requires-else-u-taken
less-requires-else-u-taken c = upper-less c.requires c.times.ensures c.remainder-taken.ensures c.if-u-taken.false

pub returns-else-u-taken : goal.returns-else-u-taken
returns-else-u-taken c = upper_is c.requires c.times.ensures c.remainder-taken.ensures c.if-u-taken.false c.less-else-u-taken.ensures
