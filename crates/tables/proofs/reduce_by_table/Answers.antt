-- `reduce_by_table` meets its promise. Assumes nothing.
use Rattle.std.proofs.Common.{ℕ, ◌≡◌, ◌≤◌, ◌<◌, true, List, Err, length, sym, ap, ◌∙◌, arith, lt-ltb, le-ltb}
use Rattle.std.proofs.lemmas.Result.{err_from_is_err_and}
use Rattle.settings.specs.Answers.{refused, fine}
use Rattle.settings.specs.Refusals.{number_of, place_told}
use Rattle.settings.specs.SharedAnswers.{writes_nothing, writes-filled}
use Rattle.settings.specs.declared.refusals.Refusal.{Refusal}
use Rattle.settings.specs.declared.setting.Setting.{Setting}
use Rattle.words.specs.Places.{words_checks}
use Rattle.words.specs.WordLaws.{words-check, words-checked}
use Rattle.tables.specs.Tables.{fits, table_checks, by_table_checks, stale_check, reduced_word_at, reduced_words, ReducesByTable}
use Rattle.tables.specs.FitLaws.{table-accepted, fits-none, stale-found, fits-size, fits-entries}
use Rattle.tables.specs.ByTableLaws.{ByTable, by-table-checked}
use Rattle.tables.proofs.reduce_by_table.Goals.{In_default}
use Rattle.settings.specs.declared.refusals.Refusal.TheVariants as in_refusal
use Rattle.tables.proofs.reduce_by_table.Goals as goal

module _ (s : Setting) (buf ws old : List ℕ) where
  refuses : (r : Refusal) → by_table_checks s buf ws (length old) ≡ refused (number_of r) (place_told r) → ReducesByTable s buf ws old (Err r) old
  refuses r e = writes_nothing (by_table_checks s buf ws (length old)) (reduced_words s ws) old r e

  at-15 : (i : ℕ) → table_checks s ≡ fine → stale_check s buf ≡ refused 15 i → by_table_checks s buf ws (length old) ≡ refused 15 i
  unfolding by_table_checks
  at-15 i e f = rw (e, f)

  at-10 : table_checks s ≡ fine → fits s buf ≡ true → length old < length ws → by_table_checks s buf ws (length old) ≡ refused 10 0
  unfolding by_table_checks
  at-10 e f h = rw (e, f, lt-ltb (length old) (length ws) h)

  at-11 : (number place : ℕ) → table_checks s ≡ fine → fits s buf ≡ true → length ws ≤ length old → words_checks s ws ≡ refused number place → by_table_checks s buf ws (length old) ≡ refused number place
  unfolding by_table_checks
  at-11 number place e f h b = rw (e, f, le-ltb (length old) (length ws) h, sym (words-checked s ws (table-accepted s e)) ∙ b)

  past-11 : table_checks s ≡ fine → fits s buf ≡ true → length ws ≤ length old → words_checks s ws ≡ fine → ByTable s buf ws (length old)
  past-11 e f h b = record { tabled = e; fit = f; room = h; words = (words-check s ws).0 (sym (words-checked s ws (table-accepted s e)) ∙ b) }

-- past 15
fresh : (c : In_default) → fits c.args.s c.args.table.now ≡ true
fresh c = rw (← c.in_ok-s.ensures.1) (fits-none c.in_ok-s.s.accepted.setting c.args.table.now c.in_default.ensures)

pub returns-in-Some : goal.returns-in-Some
returns-in-Some c =
    let a = c.args in
    let s = c.in_ok-s.ensures in
    refuses a.s a.table.now a.words.now a.out.now (in_refusal.Stale c.in-Some.i)
    (at-15 a.s a.table.now a.words.now a.out.now c.in-Some.i s.0 (rw (← s.1) (stale-found c.in_ok-s.s.accepted.setting a.table.now c.in-Some.i (sym c.in-Some.is ∙ c.first_difference.ensures))))

pub returns-then-out-words : goal.returns-then-out-words
returns-then-out-words c =
    let a = c.args in
    refuses a.s a.table.now a.words.now a.out.now in_refusal.Short
    (at-10 a.s a.table.now a.words.now a.out.now c.in_ok-s.ensures.0 (fresh (goal.at.returns-then-out-words c).In_default) c.if-out-words.true)

pub returns-in_err-check_words : goal.returns-in_err-check_words
returns-in_err-check_words c =
    let a = c.args in
    let why = c.in_err-check_words.field-0.0 in
    let told = err_from_is_err_and c.from_residual-in_err-check_words.result c.from_residual-in_err-check_words.ensures.1 in
    let same : c.from_residual-in_err-check_words.result ≡ Err why = told.1 ∙ ap Err told.2 in
    rw same
    (refuses a.s a.table.now a.words.now a.out.now why
    (at-11 a.s a.table.now a.words.now a.out.now (number_of why) (place_told why) c.in_ok-s.ensures.0 (fresh (goal.at.returns-in_err-check_words c).In_default) c.if-out-words.false (rw (← c.in_ok-s.ensures.1) (sym c.in_err-check_words.ensures))))

pub slice_bounds-reduce_words-end : goal.slice_bounds-reduce_words-end
slice_bounds-reduce_words-end c =
    omega (arith, rw c.in_ok-s.ensures.1 at c.table_size.ensures, fits-size c.args.s c.args.table.now (fresh (goal.at.slice_bounds-reduce_words-end c).In_default))

pub reduce_words-requires : goal.reduce_words-requires
reduce_words-requires c =
    let e = c.in_ok-s.ensures in
    let fit = fresh (goal.at.reduce_words-requires c).In_default in
    (rw e.1 (fits-entries c.args.s c.args.table.now c.table_size.result (rw e.1 at c.table_size.ensures) fit), c.if-out-words.false)

pub returns : goal.returns
returns c =
    let a = c.args in
    let e = c.in_ok-s.ensures in
    let passed = past-11 a.s a.table.now a.words.now a.out.now e.0 (fresh (goal.at.returns c).In_default) c.if-out-words.false (rw (← e.1) (sym c.in_ok-check_words.ensures)) in
    writes-filled (by_table_checks a.s a.table.now a.words.now (length a.out.now)) (length a.words.now) (reduced_word_at a.s a.words.now) a.out.now _ ((by-table-checked _ _ _ _).1 passed) (rw e.1 at c.reduce_words.ensures)
