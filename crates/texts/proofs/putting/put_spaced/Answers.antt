-- `put_spaced` meets its promise. Assumes nothing.
use Rattle.std.proofs.Common.{append-nil}
use Rattle.texts.specs.PuttingLaws.{puts-join}
use Rattle.texts.proofs.putting.put_spaced.Goals as goal

pub returns : goal.returns
returns c = rw append-nil (puts-join c.put-next.ensures c.put_number.ensures)
