-- `turn_opposites` meets its contract: after i turns the opposites of the last i words stand first. Assumes nothing.
use Rattle.std.proofs.Common.{◌≡◌, length}
use Rattle.polynomials.specs.Indices.{filled}
use Rattle.labels.specs.WordLaws.{opposite_from_end}
use Rattle.labels.proofs.word_lists.turn_opposites.Given as goal

abbrev pub invariant-loop-i : goal.invariant-loop-i
invariant-loop-i l = (l.out ≡ filled l.i (opposite_from_end l.xs) l.initial.out) × (length l.out ≡ length l.initial.out)
