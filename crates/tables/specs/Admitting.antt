-- Admitting a setting that takes tables.
--     Admits s r      the promise of accept_table: the setting's checks and 14 refuse nothing, and the setting is s; or they refuse what r does
use Rattle.std.specs.Prelude.{◌≡◌, Result, Ok, Err}
use Rattle.settings.specs.Answers.{refused, fine}
use Rattle.settings.specs.Refusals.{number_of, place_told}
use Rattle.settings.specs.declared.refusals.Refusal.{Refusal}
use Rattle.settings.specs.declared.setting.Setting.{Setting}
use Rattle.tables.specs.Tables.{table_checks}
use Rattle.tables.specs.declared.table_setting.TableSetting.{TableSetting}

abbrev pub Admits : Setting → Result TableSetting Refusal → Type 0
Admits s (Ok a) = (table_checks s ≡ fine) × (a.accepted.setting ≡ s)
Admits s (Err r) = table_checks s ≡ refused (number_of r) (place_told r)
