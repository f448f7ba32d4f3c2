-- `plus` meets its contract. Assumes nothing.
use Rattle.doubles.specs.Exactly.{plus-held}
use Rattle.lane.proofs.exact.plus.Goals as goal

pub returns : goal.returns
returns c = plus-held c.requires.0 c.requires.1 c.requires.2
