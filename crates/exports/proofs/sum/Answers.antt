-- `sum` meets its contract: the setting is refused, or feed refuses, or all pairs are fed to a fresh record, which is closed. Assumes nothing.
use Rattle.std.proofs.Common.{◌≡◌, List, ℕ, Ok, sym, ap, ◌∙◌}
use Rattle.std.proofs.lemmas.Result.{err_from_is_err_and}
use Rattle.settings.specs.Answers.{fine}
use Rattle.settings.specs.Refusals.{says}
use Rattle.settings.specs.Settings.{setting_checks}
use Rattle.settings.specs.declared.setting.Setting.{Setting}
use Rattle.packed.specs.Running.{Freshens, Feeds, fresh_sum, record_of}
use Rattle.packed.specs.Joining.{fresh-coherent}
use Rattle.packed.specs.declared.running.Begun.{Begun}
use Rattle.packed.specs.declared.running.Fed.{Fed}
use Rattle.exports.specs.SumLaws.{unset-sums, unfed-sums, closed-sums}
use Rattle.exports.proofs.sum.Goals as goal

-- what a fresh record is, where its setting is not refused
module _ (s : Setting) (b : Begun) (begun : Freshens s b) where
  accepted : b.answer ≡ Ok tt → setting_checks s ≡ fine
  accepted was = sym begun.0 ∙ ap says was

  fed : (xs ys : List ℕ) (f : Fed) → Feeds b.running xs ys f → Feeds (record_of s fresh_sum) xs ys f
  fed xs ys f h = rw begun.1 at h

pub returns-in_err-begun : goal.returns-in_err-begun
returns-in_err-begun c =
    let a = c.args in
    let told = err_from_is_err_and c.from_residual.result c.from_residual.ensures.1 in
    rw (told.1, told.2) (unset-sums a.s a.xs.now a.ys.now a.out.now c.in_err-begun.field-0.0 (sym c.fresh-begun.ensures.0 ∙ ap says c.in_err-begun.was))

pub feed_in_calls-fed-requires : goal.feed_in_calls-fed-requires
feed_in_calls-fed-requires c = rw c.fresh-begun.ensures.1 (fresh-coherent c.args.s (accepted c.args.s c.fresh-begun.result c.fresh-begun.ensures c.in_ok-begun.was))

pub returns-in_err-fed : goal.returns-in_err-fed
returns-in_err-fed c =
    let a = c.args in
    let told = err_from_is_err_and c.from_residual-in_err-fed.result c.from_residual-in_err-fed.ensures.1 in
    let b = c.fresh-begun in
    let f = c.feed_in_calls-fed in
    rw (told.1, told.2)
    (unfed-sums a.s a.xs.now a.ys.now a.out.now (accepted a.s b.result b.ensures c.in_ok-begun.was) f.result (fed a.s b.result b.ensures a.xs.now a.ys.now f.result f.ensures) c.in_err-fed.field-0.0 (ap says c.in_err-fed.was))

pub returns : goal.returns
returns c =
    let a = c.args in
    let b = c.fresh-begun in
    let f = c.feed_in_calls-fed in
    closed-sums a.s a.xs.now a.ys.now a.out.now (accepted a.s b.result b.ensures c.in_ok-begun.was) f.result (fed a.s b.result b.ensures a.xs.now a.ys.now f.result f.ensures) c.in_ok-fed.field-0 c.close.result c.close.new.out (ap says c.in_ok-fed.was) c.close.ensures
