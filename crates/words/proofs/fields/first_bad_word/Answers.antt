-- `first_bad_word` meets its contract: the search from 0 is the search from i, at every turn. Assumes nothing.
use Rattle.std.proofs.Common.{◌≡◌, length, sym, ◌∙◌, arith, lt-ltb, le-ltb}
use Rattle.polynomials.specs.IndexLaws.{first_found, first-passed, first_ended}
use Rattle.words.specs.Places.{bad_word, first_bad_word}
use Rattle.words.proofs.fields.first_bad_word.Goals as goal

pub returns-then-word_cause : goal.returns-then-word_cause
returns-then-word_cause c =
    let s = c.args.s.setting in
    let ws = c.args.words.now in
    let i = c.loop-i.i in
    let at : first_bad_word s ws ≡ i = c.loop-i.invariant ∙ first_found (bad_word s ws) (length ws) i (omega arith) (sym c.word_cause.ensures ∙ c.if-word_cause.true) in
    rw (at, lt-ltb i (length ws) (omega arith))

pub loop-i-preserved : goal.loop-i-preserved
loop-i-preserved c =
    let ws = c.args.words.now in
    c.loop-i.invariant ∙ first-passed (bad_word c.args.s.setting ws) (length ws) c.loop-i.i (omega arith) (sym c.word_cause.ensures ∙ c.if-word_cause.false)

pub returns : goal.returns
returns c =
    let s = c.args.s.setting in
    let ws = c.args.words.now in
    let i = c.loop-i.i in
    let at : first_bad_word s ws ≡ i = c.loop-i.invariant ∙ first_ended (bad_word s ws) (length ws) i (omega arith) in
    rw (at, le-ltb i (length ws) (omega arith))
