-- Document 01's example of the lane, and the word at which the cut product is low, computed from the definitions. Assumes nothing.
--     lane-accepted, lane_wide     p=3, k=4, n=7: t=7 is accepted, and t=8 is 16
--     forty-nine                   p=49, k=2, t=13: the word 49 reduces to 0, where the cut product with 1/49 is 0, and falls short of 49 / 49
use Rattle.std.specs.Prelude.{◌≡◌, ℕ, ◌/◌, refl}
use Rattle.doubles.specs.Whole.{cut_product}
use Rattle.doubles.specs.Quotients.{falls-short}
use Rattle.settings.specs.Answers.{fine, refused}
use Rattle.settings.specs.Settings.{setting_checks}
use Rattle.words.specs.Places.{reduced_word}
use Rattle.settings.specs.declared.setting.Setting.{Setting}
use Rattle.lane.specs.Lanes.{make_checks}

abbrev setting : ℕ → ℕ → ℕ → ℕ → Setting
setting p k t n = record { p = p; k = k; t = t; n = n }

pub lane-accepted : make_checks (setting 3 4 7 7) ≡ fine
unfolding make_checks setting_checks
lane-accepted = refl

pub lane_wide : make_checks (setting 3 4 8 7) ≡ refused 16 0
unfolding make_checks setting_checks
lane_wide = refl

pub forty-nine : (reduced_word (setting 49 2 13 1) 49 ≡ 0) × (49 / 49 ≡ 1) × (cut_product 49 49 ≡ 0)
forty-nine = (refl, refl, falls-short)
