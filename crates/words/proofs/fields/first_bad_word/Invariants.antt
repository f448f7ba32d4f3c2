-- `first_bad_word` meets its contract: the search from 0 is the search from i, at every turn. Assumes nothing.
use Rattle.std.proofs.Common.{◌≡◌, ◌-◌, length}
use Rattle.polynomials.specs.Indices.{first}
use Rattle.words.specs.Places.{bad_word, first_bad_word}
use Rattle.words.proofs.fields.first_bad_word.Given as goal

abbrev pub invariant-loop-i : goal.invariant-loop-i
invariant-loop-i l = first_bad_word l.s.setting l.words ≡ first (bad_word l.s.setting l.words) (length l.words - l.i) l.i
