-- `fields_cause` meets its contract: before place j no field is above its bound, and the rest of the word is what stands from there on. Assumes nothing.
use Rattle.std.proofs.Common.{ℕ, ◌≡◌, ◌/◌, ◌^◌}
use Rattle.polynomials.specs.IndexLaws.{NoneBefore}
use Rattle.polynomials.specs.Places.{field}
use Rattle.settings.specs.Settings.{base, places}
use Rattle.packed.specs.Running.{field_most}
use Rattle.settings.specs.declared.setting.Setting.{Setting}
use Rattle.packed.proofs.running.fields_cause.Given as goal

pub record Turn (s : Setting) (pairs word rest j : ℕ) : Type 0 where
  pub rest-is : rest ≡ word / base s ^ j
  pub none : NoneBefore (places s) (field (base s) word) (field_most s pairs) j

abbrev pub invariant-loop-j : goal.invariant-loop-j
invariant-loop-j l = Turn l.s.setting l.pairs l.word l.rest l.j
