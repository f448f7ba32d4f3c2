-- `feed_into` meets its promise. Assumes nothing.
use Rattle.std.proofs.Common.{ℕ, ◌≡◌, List, Result, Ok, sym, ◌∙◌}
use Rattle.std.proofs.lemmas.Result.{err_from_is_err_and}
use Rattle.settings.specs.Answers.{refused}
use Rattle.settings.specs.declared.refusals.Refusal.{Refusal}
use Rattle.packed.specs.declared.running.Record.{Record}
use Rattle.packed.specs.declared.running.Sum.{Sum}
use Rattle.packed.specs.FedPairs.{fed_sum}
use Rattle.packed.specs.Running.{record_check, pair_checks}
use Rattle.packed.specs.RunningChecks.{pairs-checked, feed-nothing, feed-taken}
use Rattle.packed.proofs.running.feed_into.Goals as goal

-- where the record is refused
record-refused : (r : Record) (xs ys : List ℕ) (n i : ℕ) → record_check r ≡ refused n i → pair_checks r xs ys ≡ refused n i
unfolding pair_checks
record-refused r xs ys n i e = rw e

ok-same : (u v : Sum) → ◌≡◌ {A = Result Sum Refusal} (Ok u) (Ok v) → u ≡ v
ok-same u v e = cc

pub returns-in_err-s : goal.returns-in_err-s
returns-in_err-s c =
    let a = c.args in
    let told = err_from_is_err_and c.from_residual.result c.from_residual.ensures.1 in
    rw (told.1, told.2) (feed-nothing a.running.now a.xs.now a.ys.now c.in_err-s.field-0.0 (record-refused a.running.now a.xs.now a.ys.now _ _ c.in_err-s.ensures))

pub returns-in_err-check_pairs : goal.returns-in_err-check_pairs
returns-in_err-check_pairs c =
    let a = c.args in
    let told = err_from_is_err_and c.from_residual-in_err-check_pairs.result c.from_residual-in_err-check_pairs.ensures.1 in
    rw (told.1, told.2) (feed-nothing a.running.now a.xs.now a.ys.now c.in_err-check_pairs.field-0.0 (sym c.in_err-check_pairs.ensures))

pub add_pairs-requires : goal.add_pairs-requires
add_pairs-requires c =
    let a = c.args in
    rw c.in_ok-s.ensures.1 (pairs-checked a.running.now a.xs.now a.ys.now (sym c.in_ok-check_pairs.ensures))

pub returns : goal.returns
returns c =
    let a = c.args in
    let s = c.in_ok-s.ensures in
    let sum : c.in_ok-running.field-0 ≡ fed_sum c.in_ok-s.s.setting a.running.now.sum a.xs.now a.ys.now = ok-same c.in_ok-running.field-0 (fed_sum c.in_ok-s.s.setting a.running.now.sum a.xs.now a.ys.now) c.in_ok-running.ensures in
    rw s.1 (feed-taken a.running.now a.xs.now a.ys.now c.in_ok-running.field-0 (sym c.in_ok-check_pairs.ensures) (sum ∙ rw s.1))
