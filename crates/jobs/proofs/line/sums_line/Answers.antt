-- `sums_line` meets its contract. Assumes nothing.
use Rattle.std.proofs.lemmas.List.{map-id}
use Rattle.texts.specs.PuttingLaws.{puts-join}
use Rattle.jobs.specs.Lines.{sums_line}
use Rattle.jobs.proofs.line.sums_line.Goals as goal

pub returns : goal.returns
unfolding sums_line
returns c =
    let numbers = puts-join c.put_number-at.ensures c.put_list-at.ensures in
    let sums = rw map-id at c.put_list-at-2.ensures in
    puts-join (puts-join numbers (puts-join c.put-at.ensures sums)) c.put.ensures
