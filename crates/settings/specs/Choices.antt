-- "Choose": the smallest width that passes 5 and 6.
--     escapes p k n t         the width t escapes both 5 and 6
--     smallest_width p k n     the first width from 1 to 63 that does, and 64 where none does
--     none_cause p k n         7 None: no t in 1..63 escapes both 5 and 6
--     choose_answer p k n      1, 2, 3, 7 in order, and then the width
--     choose-gives            it gives no other number
--     Chooses p k n r         the promise of choose; choose-once: it allows one answer only
use Rattle.std.specs.Prelude.{ℕ, ◌≡◌, Bool, not, ◌&&◌, [], ◌∷◌, ltb, Result}
use Rattle.polynomials.specs.Indices.{first}
use Rattle.settings.specs.Limits.{widest}
use Rattle.settings.specs.Answers.{Answer, answered, refuse, ◌and_then◌, Given}
use Rattle.settings.specs.Settings.{setting_of, modulus_cause, length_cause, batch_cause, narrow_cause, room_cause}
use Rattle.settings.specs.AnswerLaws.{given-value, given-check, given-then}
use Rattle.settings.specs.Refusals.{says, says-once}
use Rattle.settings.specs.declared.refusals.Refusal.{Refusal}

unfoldable pub escapes : ℕ → ℕ → ℕ → ℕ → Bool
escapes p k n t = not (narrow_cause (setting_of p k t n)) && not (room_cause (setting_of p k t n))

unfoldable pub smallest_width : ℕ → ℕ → ℕ → ℕ
smallest_width p k n = first (escapes p k n) widest 1

unfoldable pub none_cause : ℕ → ℕ → ℕ → Bool
none_cause p k n = ltb widest (smallest_width p k n)

unfoldable pub choose_answer : ℕ → ℕ → ℕ → Answer ℕ
choose_answer p k n =
    refuse (modulus_cause p) 1 0
    and_then refuse (length_cause k) 2 0
    and_then refuse (batch_cause n) 3 0
    and_then refuse (none_cause p k n) 7 0
    and_then answered (smallest_width p k n)

pub choose-gives : (p k n : ℕ) → Given (1 ∷ 2 ∷ 3 ∷ 7 ∷ []) (choose_answer p k n)
unfolding choose_answer
choose-gives p k n =
    given-then (given-check (modulus_cause p) 1 0)
    (given-then (given-check (length_cause k) 2 0)
    (given-then (given-check (batch_cause n) 3 0)
    (given-then (given-check (none_cause p k n) 7 0) (given-value (smallest_width p k n)))))

abbrev pub Chooses : ℕ → ℕ → ℕ → Result ℕ Refusal → Type 0
Chooses p k n r = says r ≡ choose_answer p k n

pub choose-once : (p k n : ℕ) (a b : Result ℕ Refusal) → Chooses p k n a → Chooses p k n b → a ≡ b
choose-once p k n a b = says-once a b (choose_answer p k n)
