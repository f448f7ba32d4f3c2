-- "Pack", with its checks in order.
--     shape_cause k xs    9 Shape: not exactly k coefficients
--     pack_answer s xs    the setting's checks, 9, 8; then the word, the sum of a_i q^i
--     pack-gives         the numbers that this can give, and no other
--     Packs s xs r       the promise of pack; pack-once: it allows one answer only
use Rattle.std.specs.Prelude.{ℕ, ◌≡◌, Bool, not, List, [], ◌∷◌, ◌++◌, eqb, length, Result}
use Rattle.polynomials.specs.Places.{packed}
use Rattle.settings.specs.Answers.{Answer, answered, refuse, ◌and_then◌, Given}
use Rattle.settings.specs.AnswerLaws.{given-value, given-check, given-then}
use Rattle.settings.specs.Settings.{setting_checks, setting_numbers, setting-gives, base}
use Rattle.settings.specs.Coefficients.{coefficient_check, coefficient-gives}
use Rattle.packed.specs.Taken.{taken}
use Rattle.settings.specs.declared.setting.Setting.{Setting}
use Rattle.settings.specs.Refusals.{says, says-once}
use Rattle.settings.specs.declared.refusals.Refusal.{Refusal}

abbrev pub shape_cause : ℕ → List ℕ → Bool
shape_cause k xs = not (eqb (length xs) k)

unfoldable pub pack_answer : Setting → List ℕ → Answer ℕ
pack_answer s xs =
    setting_checks s
    and_then refuse (shape_cause s.k xs) 9 0
    and_then coefficient_check s.p xs
    and_then answered (packed (base s) (taken s.p xs))

pub pack-gives : (s : Setting) (xs : List ℕ) → Given (setting_numbers ++ (9 ∷ 8 ∷ [])) (pack_answer s xs)
unfolding pack_answer
pack-gives s xs =
    given-then (setting-gives s)
    (given-then (given-check (shape_cause s.k xs) 9 0)
    (given-then (coefficient-gives s.p xs) (given-value (packed (base s) (taken s.p xs)))))

abbrev pub Packs : Setting → List ℕ → Result ℕ Refusal → Type 0
Packs s xs r = says r ≡ pack_answer s xs

pub pack-once : (s : Setting) (xs : List ℕ) (a b : Result ℕ Refusal) → Packs s xs a → Packs s xs b → a ≡ b
pack-once s xs a b = says-once a b (pack_answer s xs)
