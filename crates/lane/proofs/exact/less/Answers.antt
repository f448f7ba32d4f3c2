-- `less` meets its contract. Assumes nothing.
use Rattle.doubles.specs.Exactly.{less-held}
use Rattle.lane.proofs.exact.less.Goals as goal

pub returns : goal.returns
returns c = less-held c.requires.0 c.requires.1 c.requires.2
