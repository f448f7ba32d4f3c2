-- `times` meets its contract. Assumes nothing.
use Rattle.doubles.specs.Exactly.{times-held}
use Rattle.lane.proofs.exact.times.Goals as goal

pub returns : goal.returns
returns c = times-held c.requires.0 c.requires.1 c.requires.2
