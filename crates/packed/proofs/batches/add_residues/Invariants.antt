-- `add_residues` meets its contract: after j turns the first j sums stand, and the rest of the word is what stands from place j on. Assumes nothing.
use Rattle.std.proofs.Common.{◌≡◌, ◌/◌, ◌^◌, length}
use Rattle.polynomials.specs.Indices.{filled}
use Rattle.settings.specs.Settings.{base}
use Rattle.packed.specs.Running.{closing_of}
use Rattle.packed.proofs.batches.add_residues.Given as goal

abbrev pub invariant-loop-j : goal.invariant-loop-j
invariant-loop-j l =
    (l.out ≡ filled l.j (closing_of l.p (base l.s.setting) l.word l.residues) l.initial.out) × (length l.out ≡ length l.initial.out) × (l.rest ≡ l.word / base l.s.setting ^ l.j)
