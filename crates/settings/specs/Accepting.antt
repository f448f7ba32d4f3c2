-- Accepting a setting.
--     Past checks s r checks that hand on an accepted setting: they refuse nothing, and it is s; or they refuse what r does
--     Accepts s r     the promise of accept, whose checks are the setting's
--     accepted_says   the setting or the refusal that each case stands for
--     past-once, accept-once
--                     each allows one answer only
use Rattle.std.specs.Prelude.{◌≡◌, Result, Ok, Err}
use Rattle.std.proofs.Common.{sym, ap, ◌∙◌}
use Rattle.settings.specs.Answers.{Answer, answered, refused, Verdict, fine}
use Rattle.settings.specs.AnswerLaws.{never}
use Rattle.settings.specs.Refusals.{number_of, place_told}
use Rattle.settings.specs.Settings.{setting_checks}
use Rattle.settings.specs.declared.accepted.Accepted.{Accepted}
use Rattle.settings.specs.declared.refusals.Refusal.{Refusal}
use Rattle.settings.specs.declared.setting.Setting.{Setting}

abbrev pub Past : Verdict → Setting → Result Accepted Refusal → Type 0
Past checks s (Ok a) = (checks ≡ fine) × (a.setting ≡ s)
Past checks s (Err r) = checks ≡ refused (number_of r) (place_told r)

abbrev pub Accepts : Setting → Result Accepted Refusal → Type 0
Accepts s = Past (setting_checks s) s

abbrev pub accepted_says : Result Accepted Refusal → Answer Setting
accepted_says (Ok a) = answered a.setting
accepted_says (Err r) = refused (number_of r) (place_told r)

pub past-once : (checks : Verdict) (s : Setting) (a b : Result Accepted Refusal) → Past checks s a → Past checks s b → accepted_says a ≡ accepted_says b
past-once checks s (Ok a) (Ok b) ha hb = ap answered (ha.1 ∙ sym hb.1)
past-once checks s (Ok a) (Err e) ha hb = absurd (never (number_of e) (place_told e) tt (sym hb ∙ ha.0))
past-once checks s (Err e) (Ok b) ha hb = absurd (never (number_of e) (place_told e) tt (sym ha ∙ hb.0))
past-once checks s (Err e) (Err f) ha hb =
    let same : ◌≡◌ {A = Verdict} (refused (number_of e) (place_told e)) (refused (number_of f) (place_told f)) = sym ha ∙ hb in
    let number : number_of e ≡ number_of f = cc in
    let place : place_told e ≡ place_told f = cc in
    rw (number, place)

pub accept-once : (s : Setting) (a b : Result Accepted Refusal) → Accepts s a → Accepts s b → accepted_says a ≡ accepted_says b
accept-once s = past-once (setting_checks s) s
