-- What becomes of a table that build wrote, from the promises alone. Assumes nothing.
--     build-checked      where build answers a count, nothing was refused, and the buffer starts with the table
--     build-fits         what build wrote fits its setting
--     build-stale        it fits no setting with another p or another t, also where their entries are the same
--     build-refused      reduce by table then refuses it with 15, and leaves the list
--     pick-built         pick hands back the entries of what build wrote, where it lies
--     pick_second        also where it lies second, behind a table that was built for another p or t
use Rattle.std.specs.Prelude.{ℕ, ◌≡◌, refl, Bool, true, false, List, ◌++◌, length, drop, Result, Ok}
use Rattle.std.proofs.Common.{sym, ◌∙◌}
use Rattle.std.proofs.Math.Seq.{take-append_seam}
use Rattle.std.specs.Borrow.{Bor}
use Rattle.layout.specs.Beginnings.{first_difference, starts-with}
use Rattle.settings.specs.Answers.{fine, refused}
use Rattle.settings.specs.AnswerLaws.{passed_first}
use Rattle.tables.specs.Tables.{entries, table, table_checks, build_checks, fits, Builds, ReducesByTable, entries_place, Picks}
use Rattle.tables.specs.FitLaws.{table-checked, fits-only}
use Rattle.tables.specs.ByTableLaws.{stale-refused}
use Rattle.settings.specs.declared.setting.Setting.{Setting}
use Rattle.settings.specs.Refusals.{says}
use Rattle.settings.specs.declared.refusals.Refusal.{Refusal}

pub build-checked : (s : Setting) (old after : List ℕ) (m : ℕ) → Builds s old (Ok m) after → (table_checks s ≡ fine) × (after ≡ table s.p s.t ++ drop (length (table s.p s.t)) old)
unfolding build_checks
build-checked s old after m e =
    let all : build_checks s (length old) ≡ fine = (passed_first (build_checks s (length old)) _ m (sym e.0)).0 in
    ((passed_first (table_checks s) _ tt all).0, e.1 ∙ rw all)

pub build-fits : (s : Setting) (old after : List ℕ) (m : ℕ) → Builds s old (Ok m) after → fits s after ≡ true
build-fits s old after m e =
    let bytes = table s.p s.t in
    (starts-with after bytes).1 (rw (build-checked s old after m e).1 (take-append_seam bytes (drop (length bytes) old)))

pub pick-built : (s : Setting) (old after : List ℕ) (m : ℕ) (first second r : Bor (List ℕ)) → Builds s old (Ok m) after → first.now ≡ after → Picks s first second r
    → (r.now ≡ entries s.p s.t) × (r.ref_ptr ≡ entries_place first)
pick-built s old after m first second r builds e picks =
    let checked = (build-checked s old after m builds).0 in
    let fit : fits s first.now ≡ true = rw e (build-fits s old after m builds) in
    (picks.0 ∙ rw (checked, fit), picks.1 ∙ rw (checked, fit))

-- a setting s that takes tables, and a table that was built for another: for p or t, or for both
module _ (s other : Setting) (old after : List ℕ) (m : ℕ) (builds : Builds other old (Ok m) after) (checked : table_checks s ≡ fine)
    (differ : (s.p ≡ other.p) × (s.t ≡ other.t) → ⊥) where
  pub build-stale : fits s after ≡ false
  build-stale = go (fits s after) refl
    where
      go : (b : Bool) → fits s after ≡ b → fits s after ≡ false
      go false e = e
      go true e =
          let mine = table-checked s checked in
          let theirs = table-checked other (build-checked other old after m builds).0 in
          absurd (differ (fits-only s other after mine theirs e (build-fits other old after m builds)))

  pub build-refused : (ws list left : List ℕ) (r : Result ℕ Refusal) → ReducesByTable s after ws list r left
      → (says r ≡ refused 15 (first_difference after (table s.p s.t))) × (left ≡ list)
  build-refused ws list left r e = stale-refused s after ws list left r checked build-stale e

  pub pick_second : (list left : List ℕ) (n : ℕ) (first second r : Bor (List ℕ)) → Builds s list (Ok n) left → first.now ≡ after → second.now ≡ left → Picks s first second r
      → (r.now ≡ entries s.p s.t) × (r.ref_ptr ≡ entries_place second)
  pick_second list left n first second r mine e f picks =
      let parted : fits s first.now ≡ false = rw e build-stale in
      let fit : fits s second.now ≡ true = rw f (build-fits s list left n mine) in
      (picks.0 ∙ rw (checked, parted, fit), picks.1 ∙ rw (checked, parted, fit))
