-- Which states are coherent, and what bytes they hold. Assumes nothing.
--     held_back                    a state holds the bytes that were put into it
--     heading-coherent             a state is coherent whose header is not complete,
--     settled-coherent             or that holds a refusal that some bytes give,
--     adding-coherent              or that adds pairs up and holds a part of one
--     verdict_cause v               the verdict is a refusal that no bytes give
--     refuse-given, then-given     it is none such where number and place are those of a refusal that bytes give; nor are two checks in order
--     header-refusal               what the header's checks refuse with is a refusal that bytes give
--     Waiting st, adding-waits     what a coherent state says while pairs are added up: a record to add to, and less than a pair in wait
use Rattle.std.specs.Prelude.{ℕ, ◌≤◌, ◌<◌, ◌≡◌, refl, Bool, true, false, List, [], ltb, leb, length, take}
use Rattle.std.proofs.Math.Decide.{dec_lt}
use Rattle.std.proofs.Common.{arith, length-take-le, get_or-take, lt-ltb, le-ltb, ltb-false, leb-false}
use Rattle.std.proofs.lemmas.Bool.{lt-leb}
use Rattle.polynomials.specs.Tests.{neither}
use Rattle.polynomials.specs.Indices.{first, upto}
use Rattle.polynomials.specs.IndexLaws.{length-upto, upto-at, exceeds-none}
use Rattle.polynomials.specs.Lists.{coefficient, Below}
use Rattle.polynomials.specs.ListLaws.{lists_agree, coefficient-past}
use Rattle.settings.specs.Limits.{most_pairs}
use Rattle.settings.specs.Answers.{answered, refused, Verdict, fine, refuse, ◌and_then◌}
use Rattle.settings.specs.Settings.{modulus_cause, length_cause, batch_cause, width_cause, narrow_cause, room_cause, setting_checks}
use Rattle.settings.specs.AnswerLaws.{passed-last}
use Rattle.settings.specs.Coefficients.{first_bad, coefficient_check, coefficient-check}
use Rattle.settings.specs.Bounds.{bounds}
use Rattle.packed.specs.Running.{record_cause, record_full_cause, record_of}
use Rattle.packed.specs.RunningLaws.{coherent-is}
use Rattle.settings.specs.declared.refusals.Numbered.{Numbered}
use Rattle.settings.specs.declared.setting.Setting.{Setting}
use Rattle.packed.specs.declared.running.Sum.{Sum}
use Rattle.packed.specs.declared.running.Record.{Record}
use Rattle.jobs.specs.Jobs.{header_bytes, setting_in, pair_bytes, declared_pairs, header_cause, ragged_cause, coefficients_in, header_checks}
use Rattle.jobs.specs.Adding.{Adding}
use Rattle.jobs.specs.States.{held_bytes, holding, blank, heading, adding, settled, held_in, room, held_most, unused_cause, blank_cause, refusal_cause, adding_cause, state_cause}
use Rattle.jobs.specs.declared.state.State.{State}
use Rattle.jobs.specs.declared.state.Stage.{Stage}
use Rattle.jobs.specs.declared.state.Stage.TheVariants as in_stage

-- ---- what is held: bytes, and zeros after them, up to any number of them

held_first : (n : ℕ) (bs : List ℕ) → length bs ≤ n → take (length bs) (upto n (coefficient bs)) ≡ bs
held_first n bs h =
    let size : length (take (length bs) (upto n (coefficient bs))) ≡ length bs = length-take-le (length bs) (upto n (coefficient bs)) (rw length-upto h) in
    lists_agree (take (length bs) (upto n (coefficient bs))) bs size
    (λ j l. let inside : j < length bs = rw size at l in rw (get_or-take (length bs) (upto n (coefficient bs)) j 0 inside) (upto-at n (coefficient bs) j (omega arith)))

pub held_back : (stage : Stage) (bs : List ℕ) (pairs : ℕ) (r : Record) → length bs ≤ held_bytes → held_in (holding stage bs pairs r) ≡ bs
held_back stage bs pairs r h = held_first held_bytes bs h

unused-passes : (n : ℕ) (bs : List ℕ) → ((j : ℕ) → coefficient bs j ≤ 255) → unused_cause (length bs) (upto n (coefficient bs)) ≡ false
unused-passes n bs small =
    (exceeds-none (length (upto n (coefficient bs))) (coefficient (upto n (coefficient bs))) (held_most (length bs))).1
    (λ j l. rw (upto-at n (coefficient bs) j (rw length-upto at l)) (go j (dec_lt j (length bs))))
  where
    go : (j : ℕ) → Dec (j < length bs) → coefficient bs j ≤ held_most (length bs) j
    go j (yes l) = rw (lt-ltb j (length bs) l) (small j)
    go j (no l) = rw (le-ltb j (length bs) (omega arith), coefficient-past bs j (omega arith)) (omega arith)

-- ---- coherent states

blank-passes : blank_cause blank ≡ false
unfolding first
blank-passes = refl

pub heading-coherent : (bs : List ℕ) → ((j : ℕ) → coefficient bs j ≤ 255) → length bs < header_bytes → state_cause (heading bs) ≡ false
unfolding state_cause
heading-coherent bs small h = rw (lt-leb header_bytes (length bs) h, unused-passes held_bytes bs small, blank-passes)

pub settled-coherent : (r : Numbered) → refusal_cause r ≡ false → state_cause (settled r.number r.place) ≡ false
unfolding state_cause
settled-coherent r e = rw (e, unused-passes held_bytes [] (λ j. omega arith), blank-passes)

pub adding-coherent : (s : Setting) (u : Sum) (pairs : ℕ) (bs : List ℕ) → ((j : ℕ) → coefficient bs j ≤ 255) → Adding s u pairs
    → length bs < pair_bytes s.k → length bs ≤ room s u pairs → Below s.p (coefficients_in bs) → state_cause (adding s u pairs bs) ≡ false
unfolding state_cause
adding-coherent s u pairs bs small a h l below =
    let range = (bounds s a.coherent.accepted).range.choice in
    let held : held_in (adding s u pairs bs) ≡ bs = held_back in_stage.Pairs bs pairs (record_of s u) (omega (arith, range.k_high)) in
    let good : coefficient_check s.p (coefficients_in bs) ≡ fine = (coefficient-check s.p (coefficients_in bs) (omega (arith, range.p_low))).1 below in
    rw (
      (coherent-is (record_of s u)).1 a.coherent,
      le-ltb most_pairs pairs a.most,
      le-ltb pairs u.total a.added,
      lt-leb (pair_bytes s.k) (length bs) h,
      le-ltb (room s u pairs) (length bs) l,
      held,
      passed-last (ltb (first_bad s.p (coefficients_in bs)) (length (coefficients_in bs))) 8 (first_bad s.p (coefficients_in bs)) good,
      unused-passes held_bytes bs small,
    )

-- ---- refusals

abbrev pub verdict_cause : Verdict → Bool
verdict_cause (answered u) = false
verdict_cause (refused number place) = refusal_cause (record { number = number; place = place })

pub refuse-given : (cause : Bool) (number place : ℕ) → refusal_cause (record { number = number; place = place }) ≡ false → verdict_cause (refuse cause number place) ≡ false
refuse-given true number place e = e
refuse-given false number place e = refl

pub then-given : (v w : Verdict) → verdict_cause v ≡ false → verdict_cause w ≡ false → verdict_cause (v and_then w) ≡ false
then-given (answered u) w a b = b
then-given (refused number place) w a b = a

setting-given : (s : Setting) → verdict_cause (setting_checks s) ≡ false
unfolding setting_checks
setting-given s =
    then-given (refuse (modulus_cause s.p) 1 0) _ (refuse-given (modulus_cause s.p) 1 0 refl)
    (then-given (refuse (length_cause s.k) 2 0) _ (refuse-given (length_cause s.k) 2 0 refl)
    (then-given (refuse (batch_cause s.n) 3 0) _ (refuse-given (batch_cause s.n) 3 0 refl)
    (then-given (refuse (width_cause s.t) 4 0) _ (refuse-given (width_cause s.t) 4 0 refl)
    (then-given (refuse (narrow_cause s) 5 0) _ (refuse-given (narrow_cause s) 5 0 refl)
    (refuse-given (room_cause s) 6 0 refl)))))

header-given : (bs : List ℕ) → verdict_cause (header_checks bs) ≡ false
unfolding header_checks
header-given bs =
    then-given (refuse (header_cause bs) 17 0) _ (refuse-given (header_cause bs) 17 0 refl)
    (then-given (setting_checks (setting_in bs)) _ (setting-given (setting_in bs))
    (then-given (refuse (ragged_cause bs) 17 0) _ (refuse-given (ragged_cause bs) 17 0 refl)
    (refuse-given (record_full_cause 0 (declared_pairs bs)) 13 0 refl)))

pub header-refusal : (bs : List ℕ) (number place : ℕ) → header_checks bs ≡ refused number place → refusal_cause (record { number = number; place = place }) ≡ false
header-refusal bs number place e = rw e at (header-given bs)

-- ---- what a coherent state says

pub record Waiting (st : State) : Type 0 where
  pub adding : Adding st.running.setting st.running.sum st.pairs
  pub short : st.size < pair_bytes st.running.setting.k

pub adding-waits : (st : State) → adding_cause st ≡ false → Waiting st
adding-waits st cause =
    let first = neither (record_cause st.running) _ cause in
    let second = neither (ltb most_pairs st.pairs) _ first.1 in
    let third = neither (ltb st.pairs st.running.sum.total) _ second.1 in
    let fourth = neither (leb (pair_bytes st.running.setting.k) st.size) _ third.1 in
    record {
      adding = record {
        coherent = (coherent-is st.running).0 first.0;
        added = ltb-false st.pairs st.running.sum.total third.0;
        most = ltb-false most_pairs st.pairs second.0;
      };
      short = leb-false (pair_bytes st.running.setting.k) st.size fourth.0;
    }
