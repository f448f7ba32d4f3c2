-- `reduce_fields` meets its contract: w is the word of the m from i on, which is no more than the word given. Assumes nothing.
use Rattle.std.proofs.Common.{ℕ, ◌≡◌, List, drop}
use Rattle.polynomials.specs.Indices.{upto}
use Rattle.polynomials.specs.Places.{packed, reduced}
use Rattle.settings.specs.Settings.{base, places}
use Rattle.settings.specs.declared.setting.Setting.{Setting}
use Rattle.words.proofs.fields.reduce_fields.Given as goal

abbrev pub residues_of : Setting → ℕ → List ℕ
residues_of s word = upto (places s) (reduced s.p (base s) word)

abbrev pub invariant-loop-i : goal.invariant-loop-i
invariant-loop-i l = l.w ≡ packed (base l.s.setting) (drop l.i (residues_of l.s.setting l.word))
