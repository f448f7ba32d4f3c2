-- `residues_cause` meets its contract: before place j no residue is above its bound. Assumes nothing.
use Rattle.std.proofs.Common.{length}
use Rattle.polynomials.specs.IndexLaws.{NoneBefore}
use Rattle.polynomials.specs.Lists.{coefficient}
use Rattle.packed.specs.Running.{residue_most}
use Rattle.packed.proofs.running.residues_cause.Given as goal

abbrev pub invariant-loop-j : goal.invariant-loop-j
invariant-loop-j l = NoneBefore (length l.residues) (coefficient l.residues) (residue_most l.s.setting) l.j
