-- `cancel` meets its contract. Assumes nothing.
use Rattle.std.proofs.Common.{sym, ◌∙◌, replicate}
use Rattle.labels.specs.DivisionSteps.{multiple-size, multiple-below, step_words}
use Rattle.labels.proofs.division.cancel.Goals as goal

pub subtract-requires : goal.subtract-requires
subtract-requires c =
    let a = c.args in
    let d = c.requires in
    let m = c.product in
    (d.same_size ∙ sym (multiple-size a.g.now a.part.now (replicate 513 0) m.new.out m.result d d.few m.ensures), d.part_below, multiple-below a.g.now a.part.now (replicate 513 0) m.new.out m.result d d.few m.ensures)

pub returns : goal.returns
returns c =
    let a = c.args in
    let d = c.requires in
    let m = c.product in
    step_words a.g.now a.part.now (replicate 513 0) m.new.out m.result d d.few m.ensures c.subtract.new.out c.subtract.ensures
