-- `largest_word` meets its contract: after so many turns w is the word of as many coefficients. Assumes nothing.
use Rattle.std.proofs.Common.{◌≡◌, ◌-◌, replicate}
use Rattle.polynomials.specs.Places.{packed}
use Rattle.settings.specs.Settings.{base}
use Rattle.packed.proofs.overflow.largest_word.Given as goal

abbrev pub invariant-loop : goal.invariant-loop
invariant-loop l = l.w ≡ packed (base l.s.setting) (replicate l.counter (l.s.setting.p - 1))
