-- Accepting a setting for a lane.
--     AcceptsLane s r    the promise of accept_lane: the setting's checks and 16 refuse nothing, and the setting is s; or they refuse what r does
use Rattle.std.specs.Prelude.{◌≡◌, Result, Ok, Err}
use Rattle.settings.specs.Answers.{refused, fine}
use Rattle.settings.specs.Refusals.{number_of, place_told}
use Rattle.settings.specs.declared.refusals.Refusal.{Refusal}
use Rattle.settings.specs.declared.setting.Setting.{Setting}
use Rattle.lane.specs.Lanes.{make_checks}
use Rattle.lane.specs.declared.short.ShortSetting.{ShortSetting}

abbrev pub AcceptsLane : Setting → Result ShortSetting Refusal → Type 0
AcceptsLane s (Ok a) = (make_checks s ≡ fine) × (a.setting ≡ s)
AcceptsLane s (Err r) = make_checks s ≡ refused (number_of r) (place_told r)
