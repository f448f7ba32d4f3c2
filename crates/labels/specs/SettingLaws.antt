-- The setting in which labels are worked, and that it is accepted.
--     label_setting        src/setting.rt: one coefficient to a word, and a batch that no label passes
--     label-setting-fine  none of the checks of a setting refuses it
use Rattle.std.specs.Prelude.{◌≡◌, refl}
use Rattle.settings.specs.Answers.{fine}
use Rattle.settings.specs.Settings.{setting_checks}
use Rattle.settings.specs.declared.setting.Setting.{Setting}

abbrev pub label_setting : Setting
label_setting = record { p = 929; k = 1; t = 30; n = 928 }

pub label-setting-fine : setting_checks label_setting ≡ fine
unfolding setting_checks
label-setting-fine = refl
