-- `record_cause` meets its contract: two empty lists can be fed to every coherent record. Assumes nothing.
use Rattle.std.proofs.Common.{◌≡◌, refl, ◌∙◌, Bool, true, false, [], ℕ, Result, Ok, Err, arith, add-zero}
use Rattle.std.proofs.Math.Nat.{zero-div, zero-mod}
use Rattle.std.specs.Result.{is_err}
use Rattle.settings.specs.Answers.{refused, refuses}
use Rattle.settings.specs.Bounds.{bounds}
use Rattle.settings.specs.Refusals.{says}
use Rattle.settings.specs.declared.refusals.Refusal.{Refusal}
use Rattle.packed.specs.FedPairs.{PairsToFeed}
use Rattle.packed.specs.Running.{record_cause, Coherent, pair_checks, feed_checks, Feeds}
use Rattle.packed.specs.RunningLaws.{coherent-is}
use Rattle.packed.specs.RunningChecks.{pairs-pass, feed-refused, feed-fine}
use Rattle.packed.specs.declared.running.Record.{Record}
use Rattle.packed.specs.declared.running.Fed.{Fed}
use Rattle.jobs.proofs.coherent.record_cause.Goals as goal

nothing-fed : (r : Record) → Coherent r.setting r.sum → PairsToFeed r.setting r.sum [] []
nothing-fed r h =
    let low = (bounds r.setting h.accepted).range.choice.p_low in
    record {
      coherent = h;
      same_size = refl;
      whole = zero-mod r.setting.k;
      room = rw (zero-div r.setting.k, add-zero r.sum.total) h.few;
      left_below = λ j. omega (arith, low);
      right_below = λ j. omega (arith, low);
    }

refused-first : (r : Record) → record_cause r ≡ true → feed_checks r [] [] ≡ refused 12 0
unfolding pair_checks
refused-first r e = feed-refused r [] [] 12 0 (rw e)

refuses-err : (a : Result ℕ Refusal) → is_err a ≡ refuses (says a)
refuses-err (Ok v) = refl
refuses-err (Err e) = refl

-- feed refuses nothing exactly where the record is coherent
told : (r : Record) (f : Fed) → Feeds r [] [] f → is_err f.answer ≡ record_cause r
told r f h = refuses-err f.answer ∙ go (record_cause r) refl
  where
    go : (b : Bool) → record_cause r ≡ b → refuses (says f.answer) ≡ record_cause r
    go true e = rw (h.0, refused-first r e, e)
    go false e = rw (h.0, feed-fine r [] [] (pairs-pass r [] [] (nothing-fed r ((coherent-is r).0 e))), e)

pub returns : goal.returns
returns c = c.is_err.ensures.value ∙ told c.args.running c.feed.result c.feed.ensures
