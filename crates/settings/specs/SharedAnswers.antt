-- What a call promises that only writes into a lent list: its result says how many elements it wrote.
--     short_cause needed len           10 Short: the output buffer is shorter than needed
--     Writes checks new old r after   the promise of a call that only writes: what it answers and what the lent list old has become, for
--                                     its checks and the elements to be written
--     writes-once                     it allows one answer and one list only
--     writes_nothing                  it is kept by a refusal that leaves the list
--     writes-filled, writes-list      and, where nothing is refused, by a loop that fills it, with given elements or with those of a list
use Rattle.std.specs.Prelude.{ℕ, ◌≡◌, Bool, List, ltb, length, Result, Ok, Err}
use Rattle.std.proofs.Common.{sym, ◌∙◌}
use Rattle.polynomials.specs.Indices.{upto, filled}
use Rattle.polynomials.specs.IndexLaws.{length-upto}
use Rattle.polynomials.specs.Lists.{coefficient}
use Rattle.polynomials.specs.ListLaws.{coefficients}
use Rattle.settings.specs.Answers.{refused, Verdict, fine, wrote, left_by}
use Rattle.settings.specs.Refusals.{number_of, place_told, says, says-once}
use Rattle.settings.specs.declared.refusals.Refusal.{Refusal}

abbrev pub short_cause : ℕ → ℕ → Bool
short_cause needed len = ltb len needed

abbrev pub Writes : {A : Type 0} → Verdict → List A → List A → Result ℕ Refusal → List A → Type 0
Writes checks new old r after = (says r ≡ wrote checks new) × (after ≡ left_by checks new old)

pub writes-once : {A : Type 0} (checks : Verdict) (new old : List A) (a b : Result ℕ Refusal) (x y : List A) → Writes checks new old a x → Writes checks new old b y
    → (a ≡ b) × (x ≡ y)
writes-once checks new old a b x y ha hb = (says-once a b (wrote checks new) ha.0 hb.0, ha.1 ∙ sym hb.1)

pub writes_nothing : {A : Type 0} (checks : Verdict) (new old : List A) (r : Refusal) → checks ≡ refused (number_of r) (place_told r) → Writes checks new old (Err r) old
writes_nothing checks new old r e = (rw e, rw e)

pub writes-filled : {A : Type 0} (checks : Verdict) (m : ℕ) (f : ℕ → A) (old after : List A) → checks ≡ fine → after ≡ filled m f old → Writes checks (upto m f) old (Ok m) after
writes-filled checks m f old after e h = (rw (e, length-upto), rw (e, length-upto) h)

pub writes-list : (checks : Verdict) (m : ℕ) (new old after : List ℕ) → checks ≡ fine → length new ≡ m → after ≡ filled m (coefficient new) old → Writes checks new old (Ok m) after
writes-list checks m new old after e size h =
    let all : upto m (coefficient new) ≡ new = rw (← size) (coefficients new) in
    rw all at (writes-filled checks m (coefficient new) old after e h)
