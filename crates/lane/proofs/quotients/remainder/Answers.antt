-- `remainder` meets its contract. Assumes nothing.
use Rattle.lane.specs.QuotientLaws.{quotient-times, quotient-less, quotient-left}
use Rattle.lane.proofs.quotients.remainder.Goals as goal

pub times-requires : goal.times-requires
times-requires c = quotient-times c.requires c.quotient.ensures

pub less-requires : goal.less-requires
less-requires c = quotient-less c.requires c.quotient.ensures c.times.ensures

pub returns : goal.returns
returns c = quotient-left c.requires c.quotient.ensures c.times.ensures c.less.ensures
