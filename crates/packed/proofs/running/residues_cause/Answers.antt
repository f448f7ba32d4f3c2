-- `residues_cause` meets its contract: before place j no residue is above its bound. Assumes nothing.
use Rattle.std.proofs.Common.{length, sym, arith}
use Rattle.polynomials.specs.IndexLaws.{exceeds-passed, exceeds-found, exceeds-through}
use Rattle.polynomials.specs.Lists.{coefficient}
use Rattle.packed.specs.Running.{residue_most}
use Rattle.packed.proofs.running.residues_cause.Goals as goal

pub returns-then-residue_most-from : goal.returns-then-residue_most-from
returns-then-residue_most-from c =
    let rs = c.args.residues.now in
    sym (exceeds-found (length rs) (coefficient rs) (residue_most c.args.s.setting) c.loop-j.j (omega arith) (rw (c.residue_most.ensures, c.from.ensures) at c.if-residue_most-from.true) c.loop-j.invariant)

pub loop-j-preserved : goal.loop-j-preserved
loop-j-preserved c =
    let rs = c.args.residues.now in
    exceeds-passed (length rs) (coefficient rs) (residue_most c.args.s.setting) c.loop-j.j (omega arith) (rw (c.residue_most.ensures, c.from.ensures) at c.if-residue_most-from.false) c.loop-j.invariant

pub returns : goal.returns
returns c =
    let rs = c.args.residues.now in
    sym (exceeds-through (length rs) (coefficient rs) (residue_most c.args.s.setting) c.loop-j.j (omega arith) c.loop-j.invariant)
