-- `subtract` meets its contract: after i turns the first i words stand less those that are taken away. Assumes nothing.
use Rattle.std.proofs.Common.{◌≡◌, length}
use Rattle.polynomials.specs.Indices.{filled}
use Rattle.labels.specs.WordLaws.{less_at}
use Rattle.labels.proofs.word_lists.subtract.Given as goal

abbrev pub invariant-loop-i : goal.invariant-loop-i
invariant-loop-i l = (l.out ≡ filled l.i (less_at l.initial.out l.xs) l.initial.out) × (length l.out ≡ length l.initial.out)
