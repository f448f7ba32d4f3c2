-- The refusals, and what a call's result says.
--     number_of r, place_told r    the number and the place of each refusal
--     refusal_of n i             the refusal of a number and a place, and refusal-back: the way back from both
--     RefusesAt n i r            r is number n at place i; refusal-once: there is one such refusal only
--     InNumbers r x                  the promise of the conversion: x has the number and the place of r
--     says r                     what a result stands for: its value, or the number and the place of its refusal
--     says-back, says-once       it is had back from what it says, and fixed by it
use Rattle.std.specs.Prelude.{ℕ, ◌≡◌, refl, eqb, Result, Ok, Err}
use Rattle.std.proofs.Common.{sym, ap, ◌∙◌}
use Rattle.polynomials.specs.Indices.{pick}
use Rattle.settings.specs.Answers.{Answer, answered, refused}
use Rattle.settings.specs.AnswerLaws.{once}
use Rattle.settings.specs.declared.refusals.Numbered.{Numbered}
use Rattle.settings.specs.declared.refusals.Refusal.{Refusal}
use Rattle.settings.specs.declared.refusals.Refusal.TheVariants as in_refusal

abbrev pub number_of : Refusal → ℕ
number_of in_refusal.Modulus = 1
number_of in_refusal.Length = 2
number_of in_refusal.Batch = 3
number_of in_refusal.Width = 4
number_of in_refusal.Narrow = 5
number_of in_refusal.Room = 6
number_of in_refusal.None = 7
number_of (in_refusal.Coefficient i) = 8
number_of in_refusal.Shape = 9
number_of in_refusal.Short = 10
number_of (in_refusal.Word i) = 11
number_of in_refusal.Record = 12
number_of in_refusal.Full = 13
number_of in_refusal.NoTable = 14
number_of (in_refusal.Stale i) = 15
number_of in_refusal.Lane = 16
number_of in_refusal.Job = 17
number_of in_refusal.Overflow = 18
number_of in_refusal.Level = 19
number_of in_refusal.Few = 20
number_of in_refusal.Many = 21

abbrev pub place_told : Refusal → ℕ
place_told (in_refusal.Coefficient i) = i
place_told (in_refusal.Word i) = i
place_told (in_refusal.Stale i) = i
place_told r = 0

abbrev pub refusal_of : ℕ → ℕ → Refusal
refusal_of n i =
    pick (eqb n 1) in_refusal.Modulus
    (pick (eqb n 2) in_refusal.Length
    (pick (eqb n 3) in_refusal.Batch
    (pick (eqb n 4) in_refusal.Width
    (pick (eqb n 5) in_refusal.Narrow
    (pick (eqb n 6) in_refusal.Room
    (pick (eqb n 7) in_refusal.None
    (pick (eqb n 8) (in_refusal.Coefficient i)
    (pick (eqb n 9) in_refusal.Shape
    (pick (eqb n 10) in_refusal.Short
    (pick (eqb n 11) (in_refusal.Word i)
    (pick (eqb n 12) in_refusal.Record
    (pick (eqb n 13) in_refusal.Full
    (pick (eqb n 14) in_refusal.NoTable
    (pick (eqb n 15) (in_refusal.Stale i)
    (pick (eqb n 16) in_refusal.Lane
    (pick (eqb n 17) in_refusal.Job
    (pick (eqb n 18) in_refusal.Overflow
    (pick (eqb n 19) in_refusal.Level
    (pick (eqb n 20) in_refusal.Few
    in_refusal.Many)))))))))))))))))))

pub refusal-back : (r : Refusal) → refusal_of (number_of r) (place_told r) ≡ r
refusal-back in_refusal.Modulus = refl
refusal-back in_refusal.Length = refl
refusal-back in_refusal.Batch = refl
refusal-back in_refusal.Width = refl
refusal-back in_refusal.Narrow = refl
refusal-back in_refusal.Room = refl
refusal-back in_refusal.None = refl
refusal-back (in_refusal.Coefficient i) = refl
refusal-back in_refusal.Shape = refl
refusal-back in_refusal.Short = refl
refusal-back (in_refusal.Word i) = refl
refusal-back in_refusal.Record = refl
refusal-back in_refusal.Full = refl
refusal-back in_refusal.NoTable = refl
refusal-back (in_refusal.Stale i) = refl
refusal-back in_refusal.Lane = refl
refusal-back in_refusal.Job = refl
refusal-back in_refusal.Overflow = refl
refusal-back in_refusal.Level = refl
refusal-back in_refusal.Few = refl
refusal-back in_refusal.Many = refl

abbrev pub RefusesAt : ℕ → ℕ → Refusal → Type 0
RefusesAt n i r = (number_of r ≡ n) × (place_told r ≡ i)

pub refusal-once : (n i : ℕ) (a b : Refusal) → RefusesAt n i a → RefusesAt n i b → a ≡ b
refusal-once n i a b ha hb =
    sym (refusal-back a) ∙ ap (λ (m : ℕ). refusal_of m (place_told a)) (ha.0 ∙ sym hb.0) ∙ ap (refusal_of (number_of b)) (ha.1 ∙ sym hb.1) ∙ refusal-back b

abbrev pub InNumbers : Refusal → Numbered → Type 0
InNumbers r x = (x.number ≡ number_of r) × (x.place ≡ place_told r)

abbrev pub says : {A : Type 0} → Result A Refusal → Answer A
says (Ok v) = answered v
says (Err r) = refused (number_of r) (place_told r)

abbrev pub result_of : {A : Type 0} → Answer A → Result A Refusal
result_of (answered v) = Ok v
result_of (refused n i) = Err (refusal_of n i)

pub says-back : {A : Type 0} (r : Result A Refusal) → result_of (says r) ≡ r
says-back (Ok v) = refl
says-back (Err r) = ap Err (refusal-back r)

pub says-once : {A : Type 0} (a b : Result A Refusal) (x : Answer A) → says a ≡ x → says b ≡ x → a ≡ b
says-once = once says result_of says-back
