-- `quotient` meets its contract. Assumes nothing.
use Rattle.lane.specs.QuotientLaws.{guess-times, guess-less, guess-right, guess-low}
use Rattle.lane.proofs.quotients.quotient.Goals as goal

pub times-requires : goal.times-requires
times-requires c = guess-times c.requires c.cut_product-guess.ensures

pub less-rest-requires : goal.less-rest-requires
less-rest-requires c = guess-less c.requires c.cut_product-guess.ensures c.times.ensures

pub returns-then-rest-lane : goal.returns-then-rest-lane
returns-then-rest-lane c = guess-right c.requires c.cut_product-guess.ensures c.times.ensures c.less-rest.ensures c.if-rest-lane.true

pub returns-else-rest-lane : goal.returns-else-rest-lane
returns-else-rest-lane c = guess-low c.requires c.cut_product-guess.ensures c.times.ensures c.less-rest.ensures c.if-rest-lane.false
