-- `read_numbers` meets its promise: where the numbers are counted they are written, and where reading stops nothing is. Assumes nothing.
use Rattle.std.proofs.Common.{sym, ◌∙◌, length}
use Rattle.texts.specs.RunLaws.{counted-clean}
use Rattle.texts.proofs.reading.read_numbers.Goals as goal

pub write_numbers-requires : goal.write_numbers-requires
write_numbers-requires c =
    let a = c.args in
    counted-clean a.most (length a.out.now) a.text.now c.in_ok-n.n (sym c.check_numbers.ensures ∙ c.in_ok-n.was)
