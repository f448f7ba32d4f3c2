-- `refused_line` meets its contract. Assumes nothing.
use Rattle.texts.specs.PuttingLaws.{puts-join}
use Rattle.jobs.specs.Lines.{refused_line}
use Rattle.jobs.proofs.line.refused_line.Goals as goal

pub returns : goal.returns
unfolding refused_line
returns c = puts-join c.put_refusal-at.ensures c.put.ensures
