-- `split_fields` meets its contract: after i turns the first i fields stand, and the rest of the word is what stands from place i on. Assumes nothing.
use Rattle.std.proofs.Common.{◌≡◌, ◌/◌, ◌^◌, length}
use Rattle.polynomials.specs.Indices.{filled}
use Rattle.polynomials.specs.Places.{field}
use Rattle.settings.specs.Settings.{base}
use Rattle.words.proofs.fields.split_fields.Given as goal

abbrev pub invariant-loop-i : goal.invariant-loop-i
invariant-loop-i l =
    (l.out ≡ filled l.i (field (base l.s.setting) l.word) l.initial.out) × (length l.out ≡ length l.initial.out) × (l.rest ≡ l.word / base l.s.setting ^ l.i)
