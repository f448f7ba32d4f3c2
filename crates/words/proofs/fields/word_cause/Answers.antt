-- `word_cause` meets its contract: the last place starts within the word, and 11 is told there. Assumes nothing.
use Rattle.words.specs.WordLaws.{word-top}
use Rattle.words.proofs.fields.word_cause.Goals as goal

pub returns : goal.returns
returns c =
    let s = c.args.s in
    rw (word-top s.setting c.args.word s.bounds.range.choice.k_low, c.base.ensures)
