-- `reduce_word` meets its contract: w is the word of the m from i on, and above is u_i. Assumes nothing.
use Rattle.lane.specs.ResidueLaws.{Reduced}
use Rattle.lane.proofs.residues.reduce_word.Given as goal

abbrev pub invariant-loop-i : goal.invariant-loop-i
invariant-loop-i l = Reduced l.lane l.x l.above l.w l.i

abbrev pub decreases-loop-i : goal.decreases-loop-i
decreases-loop-i l = l.i
