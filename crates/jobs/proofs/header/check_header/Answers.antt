-- `check_header` meets its contract. Assumes nothing.
use Rattle.std.proofs.Common.{ℕ, ◌%◌, ◌≡◌, ◌≤◌, ◌<◌, sym, ap, ◌∙◌, Err, List, length, zero-add, arith, rules, lt-ltb, le-ltb, eq-eqb, ne_eqb}
use Rattle.std.proofs.lemmas.Result.{err_from_is_err_and}
use Rattle.settings.specs.Limits.{most_pairs}
use Rattle.settings.specs.Answers.{refused, fine, refuse, ◌and_then◌}
use Rattle.settings.specs.Settings.{setting_checks, InChoice}
use Rattle.settings.specs.Bounds.{bounds}
use Rattle.packed.specs.Running.{record_full_cause}
use Rattle.jobs.specs.Jobs.{header_bytes, length_in, version_in, setting_in, pair_bytes, declared_bytes, declared_pairs, ragged_cause, header_checks}
use Rattle.jobs.proofs.header.check_header.Goals.{Start, Else-length-lt-COUNTED, In_ok-check}
use Rattle.jobs.proofs.header.check_header.Goals as goal
use Rattle.settings.specs.Refusals.{number_of, place_told}

-- a header of version 1 that counts itself
record Begun (bs : List ℕ) : Type 0 where
  all : length bs ≡ header_bytes
  version : version_in bs ≡ 1
  counted : 11 ≤ length_in bs

at-version : (bs : List ℕ) → length bs ≡ header_bytes → (version_in bs ≡ 1 → ⊥) → refused 17 0 ≡ header_checks bs
unfolding header_checks
at-version bs all h = rw (le-ltb (length bs) header_bytes (omega arith), ne_eqb (version_in bs) 1 h)

at_length : (bs : List ℕ) → length bs ≡ header_bytes → version_in bs ≡ 1 → length_in bs < 11 → refused 17 0 ≡ header_checks bs
unfolding header_checks
at_length bs all version h = rw (le-ltb (length bs) header_bytes (omega arith), eq-eqb (version_in bs) 1 version, lt-ltb (length_in bs) 11 h)

module _ (bs : List ℕ) (b : Begun bs) where
  from-setting : header_checks bs ≡ (setting_checks (setting_in bs) and_then refuse (ragged_cause bs) 17 0 and_then refuse (record_full_cause 0 (declared_pairs bs)) 13 0)
  unfolding header_checks
  from-setting = rw (le-ltb (length bs) header_bytes (omega (arith, b.all)), eq-eqb (version_in bs) 1 b.version, le-ltb (length_in bs) 11 b.counted)

  at-setting : (number place : ℕ) → setting_checks (setting_in bs) ≡ refused number place → refused number place ≡ header_checks bs
  at-setting number place e = rw (from-setting, e)

  module _ (accepted : setting_checks (setting_in bs) ≡ fine) where
    at-ragged : (declared_bytes bs % pair_bytes (setting_in bs).k ≡ 0 → ⊥) → refused 17 0 ≡ header_checks bs
    at-ragged h = rw (from-setting, accepted, ne_eqb (declared_bytes bs % pair_bytes (setting_in bs).k) 0 h)

    module _ (whole : declared_bytes bs % pair_bytes (setting_in bs).k ≡ 0) where
      from-full : header_checks bs ≡ refuse (record_full_cause 0 (declared_pairs bs)) 13 0
      from-full = rw (from-setting, accepted, eq-eqb (declared_bytes bs % pair_bytes (setting_in bs).k) 0 whole)

      at-full : most_pairs < declared_pairs bs → refused 13 0 ≡ header_checks bs
      at-full h = rw (from-full, zero-add (declared_pairs bs), lt-ltb most_pairs (declared_pairs bs) h)

      at-end : declared_pairs bs ≤ most_pairs → fine ≡ header_checks bs
      at-end h = rw (from-full, zero-add (declared_pairs bs), le-ltb most_pairs (declared_pairs bs) h)

whole : (c : Start) → length c.args.header.now ≡ header_bytes
whole c = search rules

begun : (c : Else-length-lt-COUNTED) → Begun c.args.header.now
begun c = record {
  all = search rules;
  version = sym c.one.ensures ∙ c.if-one-ne1.false;
  counted = rw c.four-length.ensures at c.if-length-lt-COUNTED.false;
}

accepted : (c : In_ok-check) → setting_checks c.setting_in-s.result ≡ fine
accepted c = sym c.in_ok-check.ensures

choice : (c : In_ok-check) → let s = c.setting_in-s.result in InChoice s.p s.k s.n
choice c = (bounds c.setting_in-s.result (accepted c)).range.choice

pub returns-then-one-ne1 : goal.returns-then-one-ne1
returns-then-one-ne1 c = at-version c.args.header.now (whole (goal.at.returns-then-one-ne1 c).Start) (λ e. c.if-one-ne1.true (c.one.ensures ∙ e))

pub returns-then-length-lt-COUNTED : goal.returns-then-length-lt-COUNTED
returns-then-length-lt-COUNTED c =
    at_length c.args.header.now (whole (goal.at.returns-then-length-lt-COUNTED c).Start) (sym c.one.ensures ∙ c.if-one-ne1.false) (rw c.four-length.ensures at c.if-length-lt-COUNTED.true)

pub returns-in_err-check : goal.returns-in_err-check
returns-in_err-check c =
    let why = c.in_err-check.field-0.0 in
    let told = err_from_is_err_and c.from_residual.result c.from_residual.ensures.1 in
    let same : c.from_residual.result ≡ Err why = told.1 ∙ ap Err told.2 in
    rw same
    (at-setting _ (begun (goal.at.returns-in_err-check c).Else-length-lt-COUNTED) (number_of why) (place_told why) (rw c.setting_in-s.ensures at (sym c.in_err-check.ensures)))

pub pair_bytes-requires : goal.pair_bytes-requires
pair_bytes-requires c = (choice c).k_high

pub nonzero_rem-length : goal.nonzero_rem-length
nonzero_rem-length c = omega (arith, (choice (goal.at.nonzero_rem-length c).In_ok-check).k_low, c.pair_bytes.ensures)

pub returns-then-length-pair_bytes-ne0 : goal.returns-then-length-pair_bytes-ne0
returns-then-length-pair_bytes-ne0 c =
    let n = c.four-length.ensures in
    at-ragged _ (begun (goal.at.returns-then-length-pair_bytes-ne0 c).Else-length-lt-COUNTED) (rw c.setting_in-s.ensures at (accepted (goal.at.returns-then-length-pair_bytes-ne0 c).In_ok-check)) (rw (n, c.pair_bytes.ensures, c.setting_in-s.ensures) at c.if-length-pair_bytes-ne0.true)

pub pair_bytes-requires-2 : goal.pair_bytes-requires-2
pair_bytes-requires-2 c = (choice (goal.at.pair_bytes-requires-2 c).In_ok-check).k_high

pub nonzero_div-length : goal.nonzero_div-length
nonzero_div-length c = omega (arith, (choice (goal.at.nonzero_div-length c).In_ok-check).k_low, c.pair_bytes-2.ensures)

pub returns-then-length-pair_bytes-gt-MOST_PAIRS : goal.returns-then-length-pair_bytes-gt-MOST_PAIRS
returns-then-length-pair_bytes-gt-MOST_PAIRS c =
    let n = c.four-length.ensures in
    let many = rw (n, c.pair_bytes-2.ensures, c.setting_in-s.ensures) at c.if-length-pair_bytes-gt-MOST_PAIRS.true in
    at-full _ (begun (goal.at.returns-then-length-pair_bytes-gt-MOST_PAIRS c).Else-length-lt-COUNTED) (rw c.setting_in-s.ensures at (accepted (goal.at.returns-then-length-pair_bytes-gt-MOST_PAIRS c).In_ok-check)) (rw (n, c.pair_bytes.ensures, c.setting_in-s.ensures) at c.if-length-pair_bytes-ne0.false)
    (omega (arith, many))

pub returns : goal.returns
returns c =
    let n = c.four-length.ensures in
    at-end _ (begun (goal.at.returns c).Else-length-lt-COUNTED) (rw c.setting_in-s.ensures at (accepted (goal.at.returns c).In_ok-check)) (rw (n, c.pair_bytes.ensures, c.setting_in-s.ensures) at c.if-length-pair_bytes-ne0.false)
    (rw (n, c.pair_bytes-2.ensures, c.setting_in-s.ensures) at c.if-length-pair_bytes-gt-MOST_PAIRS.false)
