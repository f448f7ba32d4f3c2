-- `turn_opposites` meets its contract: after i turns the opposites of the last i words stand first. Assumes nothing.
use Rattle.std.proofs.Common.{arith}
use Rattle.labels.specs.WordLaws.{turned-opposites}
use Rattle.labels.proofs.word_lists.turn_opposites.Goals as goal

pub returns : goal.returns
returns c =
    let a = c.args in
    let l = c.loop-i in
    turned-opposites a.xs.now a.out.now l.out l.i c.requires.0 (omega arith) l.invariant.0
