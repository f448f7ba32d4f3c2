-- Pairs that are fed in calls, and closed. Assumes nothing; it names promises, and no function.
--     FedTo r xs ys z m        feeding xs and ys to r, in one call, gives the record z and takes m pairs
--     fed-to                   what a call gives that was taken
--     fed-none                 no pairs change nothing
--     fed-more                 two calls that were taken are one call with the lists joined
--     fed-part                 so are the calls up to a place of the lists, and the one from there on
--     fed-few                  there are no more pairs than coefficients
--     sum-unset, sum-unfed     what keeps sum's promise: a refusal of the setting, or of feed
--     sum-closed               and the closing of a fresh record that was fed
use Rattle.std.specs.Prelude.{ℕ, ◌+◌, ◌-◌, ◌/◌, ◌≤◌, ◌<◌, ◌≡◌, refl, length, take, drop, List, [], ◌∷◌, ◌++◌}
use Rattle.std.proofs.Common.{sym, ap, subst, ◌∙◌, div-le_self, arith, take-add, Result, Ok, Err, append-nil}
use Rattle.std.proofs.Math.Nat.{zero-div, zero-mod}
use Rattle.polynomials.specs.Lists.{Pair}
use Rattle.settings.specs.Answers.{answered, refused, Verdict, fine, ◌and_then◌}
use Rattle.settings.specs.AnswerLaws.{never, passed_first}
use Rattle.settings.specs.Bounds.{bounds}
use Rattle.settings.specs.Settings.{setting_checks}
use Rattle.packed.specs.Running.{Coherent, after_pairs, fed_pairs, feed_checks, fresh_sum, record_of, Feeds, Closes}
use Rattle.packed.specs.Calls.{Call, ClosesTo}
use Rattle.packed.specs.FedPairs.{fed_sum, PairsToFeed}
use Rattle.packed.specs.FedPairs as in_feeds
use Rattle.packed.specs.RunningChecks.{pairs-pass, feed-taken, Told, feed-told}
use Rattle.packed.specs.DemandThree.{demand-3}
use Rattle.packed.specs.Joining.{feed-joined, fed_by, fed-by}
use Rattle.settings.specs.declared.setting.Setting.{Setting}
use Rattle.packed.specs.declared.running.Sum.{Sum}
use Rattle.packed.specs.declared.running.Record.{Record}
use Rattle.packed.specs.declared.running.Begun.{Begun}
use Rattle.packed.specs.declared.running.Fed.{Fed}
use Rattle.exports.specs.Replies.{reply_of, result_reply}
use Rattle.exports.specs.Exports.{whole_sum_checks, GivesSum, SumsTo}
use Rattle.settings.specs.Refusals.{number_of, place_told, says}
use Rattle.settings.specs.declared.refusals.Refusal.{Refusal}

abbrev pub FedTo : Record → List ℕ → List ℕ → Record → ℕ → Type 0
FedTo r xs ys z m = Feeds r xs ys (record { running = z; answer = Ok m })

pub fed-to : (r : Record) (xs ys : List ℕ) (f : Fed) (m : ℕ) → Feeds r xs ys f → f.answer ≡ Ok m → FedTo r xs ys f.running m
fed-to r xs ys f m h e = (sym (ap says e) ∙ h.0, h.1)

after_none : (s : Setting) (u : Sum) (cs : List Pair) → length cs ≡ 0 → after_pairs s u cs ≡ u
unfolding after_pairs
after_none s u [] e = refl
after_none s u (c ∷ cs) e = absurd (omega arith)

pub fed-none : (r : Record) → Coherent r.setting r.sum → FedTo r [] [] r 0
fed-none r h =
    let s = r.setting in
    let none : 0 / s.k ≡ 0 = zero-div s.k in
    let below : (j : ℕ) → 0 < s.p = λ j. omega (arith, (bounds s h.accepted).range.choice.p_low) in
    let can : PairsToFeed s r.sum [] [] = record {
      coherent = h;
      same_size = refl;
      whole = zero-mod s.k;
      room = rw none (omega (arith, h.few));
      left_below = below;
      right_below = below;
    } in
    let same : r.sum ≡ fed_sum s r.sum [] [] = sym (after_none s r.sum (fed_pairs s [] []) (in_feeds.fed-count s [] [] ∙ none)) in
    subst (λ (m : ℕ). FedTo r [] [] r m) none (feed-taken r [] [] r.sum (pairs-pass r [] [] can) same)

module _ (r : Record) (xs ys : List ℕ) (z : Record) (m : ℕ) (fed : FedTo r xs ys z m) where
  told : Told r xs ys (record { running = z; answer = Ok m })
  told = feed-told r xs ys (record { running = z; answer = Ok m }) fed refl

  count : m ≡ length xs / r.setting.k
  count = let took = told.took in cc

  pub fed-few : m ≤ length xs
  fed-few = rw count (div-le_self (length xs) r.setting.k)

  setting_kept : z.setting ≡ r.setting
  setting_kept = ap (λ (r : Record). r.setting) told.after

pub fed-more : (r : Record) (xs ys us vs : List ℕ) (z w : Record) (m l : ℕ) → FedTo r xs ys z m → FedTo z us vs w l → FedTo r (xs ++ us) (ys ++ vs) w (m + l)
fed-more r xs ys us vs z w m l first second =
    let f : Fed = record { running = z; answer = Ok m } in
    let g : Fed = record { running = w; answer = Ok l } in
    let all = feed-joined r xs ys us vs f g (fed_by r (xs ++ us) (ys ++ vs)) first refl second refl (fed-by r (xs ++ us) (ys ++ vs)) in
    let pairs : length xs / r.setting.k + length us / r.setting.k ≡ m + l = rw (count r xs ys z m first, count z us vs w l second, setting_kept r xs ys z m first) in
    subst (λ (n : ℕ). FedTo r (xs ++ us) (ys ++ vs) w n) pairs (subst (Feeds r (xs ++ us) (ys ++ vs)) all (fed-by r (xs ++ us) (ys ++ vs)))

pub fed-part : (r : Record) (xs ys : List ℕ) (i j : ℕ) (z w : Record) (m l : ℕ) → i ≤ j → FedTo r (take i xs) (take i ys) z m → FedTo z (take (j - i) (drop i xs)) (take (j - i) (drop i ys)) w l
    → FedTo r (take j xs) (take j ys) w (m + l)
fed-part r xs ys i j z w m l order first second =
    let all : i + (j - i) ≡ j = omega arith in
    let parts : (zs : List ℕ) → take i zs ++ take (j - i) (drop i zs) ≡ take j zs = λ zs. sym (take-add i (j - i) zs) ∙ rw all in
    rw (parts xs, parts ys) at (fed-more r (take i xs) (take i ys) (take (j - i) (drop i xs)) (take (j - i) (drop i ys)) z w m l first second)

-- ---- sum

refused-first : (v : Verdict) (m number place : ℕ) → (v and_then answered m) ≡ refused number place → v ≡ refused number place
refused-first (answered u) m number place e = absurd (never number place m (sym e))
refused-first (refused n i) m number place e = cc

-- a sum as a result, told in numbers
pub sums-give : (s : Setting) (xs ys old : List ℕ) (a : Result ℕ Refusal) (after : List ℕ) → SumsTo s xs ys old a after → GivesSum s xs ys old (result_reply a) after
sums-give s xs ys old a after h = (ap reply_of h.0, h.1)

module _ (s : Setting) (xs ys old : List ℕ) where
  abbrev start : Record
  start = record_of s fresh_sum

  pub sum-unset : (number place : ℕ) → setting_checks s ≡ refused number place → GivesSum s xs ys old (reply_of (refused number place)) old
  unfolding whole_sum_checks
  sum-unset number place e = (rw e, rw e)

  -- the same of results
  pub unset-sums : (e : Refusal) → setting_checks s ≡ refused (number_of e) (place_told e) → SumsTo s xs ys old (Err e) old
  unfolding whole_sum_checks
  unset-sums e h = (rw h, rw h)

  module _ (ok : setting_checks s ≡ fine) (f : Fed) (fed : Feeds start xs ys f) where
    pub sum-unfed : (number place : ℕ) → says f.answer ≡ refused number place → GivesSum s xs ys old (reply_of (refused number place)) old
    unfolding whole_sum_checks
    sum-unfed number place e =
        let why : feed_checks start xs ys ≡ refused number place = refused-first (feed_checks start xs ys) (length xs / s.k) number place (sym fed.0 ∙ e) in
        (rw (ok, why), rw (ok, why))

    pub unfed-sums : (e : Refusal) → says f.answer ≡ refused (number_of e) (place_told e) → SumsTo s xs ys old (Err e) old
    unfolding whole_sum_checks
    unfed-sums e h =
        let why : feed_checks start xs ys ≡ refused (number_of e) (place_told e) = refused-first (feed_checks start xs ys) (length xs / s.k) (number_of e) (place_told e) (sym fed.0 ∙ h) in
        (rw (ok, why), rw (ok, why))

    pub closed-sums : (m : ℕ) (a : Result ℕ Refusal) (after : List ℕ) → says f.answer ≡ answered m → Closes f.running old a after → SumsTo s xs ys old a after
    unfolding whole_sum_checks
    closed-sums m a after took closes =
        let taken : feed_checks start xs ys ≡ fine = (passed_first (feed_checks start xs ys) (answered (length xs / s.k)) m (sym fed.0 ∙ took)).0 in
        let begun : Begun = record { running = start; answer = (Ok tt) } in
        let call : Call = record { left = xs; right = ys; gave = f } in
        let closing = (demand-3 s ok begun (sym ok, refl) (call ∷ []) f.running (fed, rw took, refl)).closing old after a closes in
        let all : ClosesTo s (fed_pairs s xs ys) old a after = rw (append-nil xs, append-nil ys) at closing in
        (rw (ok, taken) all.0, rw (ok, taken) all.1)

    pub sum-closed : (m : ℕ) (a : Result ℕ Refusal) (after : List ℕ) → says f.answer ≡ answered m → Closes f.running old a after → GivesSum s xs ys old (result_reply a) after
    sum-closed m a after took closes = sums-give s xs ys old a after (closed-sums m a after took closes)
