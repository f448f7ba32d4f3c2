-- Reduce by table, from its promise and that of reduce alone. Assumes nothing.
--     stale-checks         a buffer that does not fit is refused with 15 at its first difference, whatever the words
--     stale-refused        so reduce by table answers that, and leaves the list
--     ByTable s buf ws len what holds where reduce by table refuses nothing
--     by-table-checked     and it refuses nothing exactly there
--     by-table-reduces     where reduce by table answers, it has written one word for each word, and each is what reduce answers
--     by-table-answers     where reduce answers every word, the table fits and the list lent is long enough, reduce by table answers too
use Rattle.std.specs.Prelude.{ℕ, ◌≤◌, ◌<◌, ◌≡◌, refl, true, false, not, List, ◌↔◌, length, drop, Result, Ok}
use Rattle.std.proofs.Common.{sym, ap, ◌∙◌, le-ltb, ltb-false}
use Rattle.std.proofs.Math.ListN.{get_or-append}
use Rattle.std.proofs.lemmas.Bool.{not-false}
use Rattle.polynomials.specs.Indices.{filled}
use Rattle.polynomials.specs.IndexLaws.{length-upto, upto-at}
use Rattle.polynomials.specs.Lists.{coefficient}
use Rattle.layout.specs.Beginnings.{first_difference}
use Rattle.settings.specs.Answers.{fine, refused}
use Rattle.settings.specs.AnswerLaws.{passed, passed_first, passed-last}
use Rattle.settings.specs.SharedAnswers.{short_cause, writes-once, writes-filled}
use Rattle.settings.specs.Settings.{setting_checks}
use Rattle.words.specs.Places.{word_cause, word_checks, reduce_answer, Reduces}
use Rattle.words.specs.WordLaws.{words-check}
use Rattle.tables.specs.Tables.{table, fits, table_checks, by_table_checks, reduced_word_at, reduced_words, ReducesByTable}
use Rattle.tables.specs.FitLaws.{table-accepted}
use Rattle.settings.specs.declared.setting.Setting.{Setting}
use Rattle.settings.specs.Refusals.{says}
use Rattle.settings.specs.declared.refusals.Refusal.{Refusal}

pub stale-checks : (s : Setting) (buf ws : List ℕ) (len : ℕ) → table_checks s ≡ fine → fits s buf ≡ false → by_table_checks s buf ws len ≡ refused 15 (first_difference buf (table s.p s.t))
unfolding by_table_checks
stale-checks s buf ws len checked parted = rw (checked, parted)

pub stale-refused : (s : Setting) (buf ws old after : List ℕ) (r : Result ℕ Refusal) → table_checks s ≡ fine → fits s buf ≡ false → ReducesByTable s buf ws old r after
    → (says r ≡ refused 15 (first_difference buf (table s.p s.t))) × (after ≡ old)
stale-refused s buf ws old after r checked parted e =
    let checks = stale-checks s buf ws (length old) checked parted in
    (e.0 ∙ rw checks, e.1 ∙ rw checks)

pub record ByTable (s : Setting) (buf ws : List ℕ) (len : ℕ) : Type 0 where
  pub tabled : table_checks s ≡ fine
  pub fit : fits s buf ≡ true
  pub room : length ws ≤ len
  pub words : (i : ℕ) → i < length ws → word_cause s (coefficient ws i) ≡ false

pub by-table-checked : (s : Setting) (buf ws : List ℕ) (len : ℕ) → (by_table_checks s buf ws len ≡ fine) ↔ ByTable s buf ws len
unfolding by_table_checks
by-table-checked s buf ws len = (
  λ e. let a = passed_first (table_checks s) _ tt e in
      let b = passed (not (fits s buf)) 15 (first_difference buf (table s.p s.t)) _ tt a.1 in
      let c = passed (short_cause (length ws) len) 10 0 _ tt b.1 in
      record { tabled = a.0; fit = not-false (fits s buf) b.0; room = ltb-false len (length ws) c.0; words = (words-check s ws).0 c.1 },
  λ h. rw (h.tabled, h.fit, le-ltb len (length ws) h.room, (words-check s ws).1 h.words),
)

pub by-table-reduces : (s : Setting) (buf ws old after : List ℕ) (m : ℕ) → ReducesByTable s buf ws old (Ok m) after
    → (m ≡ length ws) × ((i : ℕ) → i < length ws → Reduces s (coefficient ws i) (Ok (coefficient after i)))
unfolding reduce_answer word_checks
by-table-reduces s buf ws old after m e =
    let checks = by_table_checks s buf ws (length old) in
    let new = reduced_words s ws in
    let a = passed_first checks _ m (sym e.0) in
    let h = (by-table-checked s buf ws (length old)).0 a.0 in
    let accepted : setting_checks s ≡ fine = table-accepted s h.tabled in
    let count : length new ≡ m = cc a.1 in (
      sym count ∙ length-upto (length ws) (reduced_word_at s ws),
      λ i l.
          let at : coefficient after i ≡ reduced_word_at s ws i = ap (λ (xs : List ℕ). coefficient xs i) e.1 ∙ rw a.0 (get_or-append new (drop (length new) old) 0 i (rw length-upto l) ∙ upto-at (length ws) (reduced_word_at s ws) i l) in
          rw (accepted, h.words i l, at),
    )

pub by-table-answers : (s : Setting) (buf ws old after : List ℕ) (r : Result ℕ Refusal) (vs : ℕ → ℕ) → table_checks s ≡ fine → fits s buf ≡ true → length ws ≤ length old
    → ((i : ℕ) → i < length ws → Reduces s (coefficient ws i) (Ok (vs i))) → ReducesByTable s buf ws old r after → r ≡ Ok (length ws)
unfolding reduce_answer word_checks
by-table-answers s buf ws old after r vs tabled fit room answers e =
    let checks = by_table_checks s buf ws (length old) in
    let words : (i : ℕ) → i < length ws → word_cause s (coefficient ws i) ≡ false = λ i l. passed-last (word_cause s (coefficient ws i)) 11 0 (passed_first (setting_checks s) _ tt (passed_first (word_checks s (coefficient ws i)) _ (vs i) (sym (answers i l))).0).1 in
    let none-refused : checks ≡ fine = (by-table-checked s buf ws (length old)).1 (record { tabled = tabled; fit = fit; room = room; words = words }) in
    let done = filled (length ws) (reduced_word_at s ws) old in
    (writes-once checks (reduced_words s ws) old r (Ok (length ws)) after done e (writes-filled checks (length ws) (reduced_word_at s ws) old done none-refused refl)).0
