-- What finish writes. Assumes nothing.
--     reductions_of r, sums_of r       what closing a record gives: the reductions, and the 2k-1 coefficients
--     adding-early, adding-sums      the line where pairs are added up: an early end, or the sums
--     adding-range                   the setting there is in range
--     adding-short                   the numbers of the sums' line are short
--     closed-never                   closing the record refuses nothing, if a list of 15 or more elements is lent
--     closed-line                    with what it answers and leaves in the list the numbers make that line
--     state-adding                   what a coherent state promises while pairs are added up
--     line-incoherent, line-at       the line of a state that is not coherent, and at each stage of one that is
--     line-fits                      no state's line is longer than the longest
--     line-room                      so it stands whole in a list with room for the longest that it was put into
--     finish-short, finish-written   what keeps the promise of finish: 10, and that line put into the buffer
use Rattle.std.specs.Prelude.{ℕ, ◌≤◌, ◌<◌, ◌≡◌, refl, Bool, true, false, not, List, ◌++◌, ltb, eqb, length, take, drop, Result, Ok, Err}
use Rattle.std.proofs.Common.{sym, ◌∙◌, true≢false, le_trans, lt_of_le_of_lt, lt_of_lt_of_le, mod-lt, arith, lit<, lit≤, take_at, ne_eqb, lt-ltb, le-ltb, le-leb}
use Rattle.std.proofs.Math.Bool.{or-true}
use Rattle.std.proofs.Math.Decide.{dec_lt}
use Rattle.polynomials.specs.Tests.{neither}
use Rattle.polynomials.specs.Indices.{upto, rounded_up}
use Rattle.polynomials.specs.IndexLaws.{length-upto, upto-most}
use Rattle.polynomials.specs.Lists.{Below}
use Rattle.polynomials.specs.BlockLaws.{rounded-up-few}
use Rattle.settings.specs.Limits.{residue_places}
use Rattle.settings.specs.Answers.{answered, fine}
use Rattle.settings.specs.AnswerLaws.{never}
use Rattle.settings.specs.SharedAnswers.{writes_nothing}
use Rattle.settings.specs.Settings.{places, InRange}
use Rattle.settings.specs.Bounds.{bounds}
use Rattle.packed.specs.Running.{close_checks, closing_at, Closes}
use Rattle.packed.specs.RunningChecks.{close-pass}
use Rattle.texts.specs.Putting.{Puts}
use Rattle.texts.specs.PuttingLaws.{puts-size, put-fits}
use Rattle.settings.specs.declared.refusals.Refusal.{Refusal}
use Rattle.settings.specs.declared.refusals.Refusal.TheVariants as in_refusal
use Rattle.settings.specs.declared.refusals.Numbered.{Numbered}
use Rattle.packed.specs.declared.running.Record.{Record}
use Rattle.jobs.specs.Lines.{sums_line, refused_line}
use Rattle.jobs.specs.States.{refusal_cause, settled_cause, state_cause, adding_line, line_at, line_of, finish_checks, Finishes}
use Rattle.jobs.specs.Adding.{Adding}
use Rattle.jobs.specs.Texts.{longest_line, Short}
use Rattle.jobs.specs.CoherentLaws.{adding-waits}
use Rattle.jobs.specs.LineLaws.{sums-line-short, refused-line-short}
use Rattle.jobs.specs.declared.state.State.{State}
use Rattle.jobs.specs.declared.state.Stage.{Stage}
use Rattle.jobs.specs.declared.state.Stage.TheVariants as in_stage
use Rattle.settings.specs.Refusals.{number_of, place_told, says}

abbrev pub reductions_of : Record → ℕ
reductions_of r = rounded_up r.sum.total r.setting.n

abbrev pub sums_of : Record → List ℕ
sums_of r = upto (places r.setting) (closing_at r.setting r.sum)

module _ (r : Record) (pairs : ℕ) where
  pub adding-early : r.sum.total < pairs → adding_line r pairs ≡ refused_line 17 0
  adding-early h = rw (lt-ltb r.sum.total pairs h)

  pub adding-sums : pairs ≤ r.sum.total → adding_line r pairs ≡ sums_line r.setting pairs (reductions_of r) (sums_of r)
  adding-sums h = rw (le-ltb r.sum.total pairs h)

-- ---- closing

module _ (r : Record) (pairs : ℕ) (h : Adding r.setting r.sum pairs) where
  pub adding-range : InRange r.setting
  adding-range = (bounds r.setting h.coherent.accepted).range

  -- 15 places are enough for all coefficients
  few-places : places r.setting ≤ residue_places
  few-places = omega (arith, adding-range.choice.k_high)

  close-fine : (len : ℕ) → residue_places ≤ len → close_checks r len ≡ fine
  close-fine len l = close-pass r len h.coherent ∙ rw (le-ltb len (places r.setting) (le_trans few-places l))

  pub adding-short : Short r.setting pairs (reductions_of r) (sums_of r)
  adding-short =
      record {
        range = adding-range;
        pairs_most = h.most;
        reductions_most = le_trans (rounded-up-few r.sum.total r.setting.n adding-range.choice.n_low) h.coherent.few;
        places_most = rw length-upto few-places;
      }

  module _ (old : List ℕ) (a : Result ℕ Refusal) (after : List ℕ) (room : residue_places ≤ length old) (closes : Closes r old a after) where
    said : says a ≡ answered (reductions_of r)
    said = rw (close-fine (length old) room) at closes.0

    left : take (places r.setting) after ≡ sums_of r
    left =
        let sums : List ℕ = sums_of r in
        let whole : after ≡ sums ++ drop (length sums) old = rw (close-fine (length old) room) at closes.1 in
        rw whole (take_at sums (drop (length sums) old) (places r.setting) (length-upto (places r.setting) (closing_at r.setting r.sum)))

    pub closed-never : (why : Refusal) → a ≡ Err why → ⊥
    closed-never why e = never (number_of why) (place_told why) (reductions_of r) (rw e at said)

    module _ (m : ℕ) (e : a ≡ Ok m) where
      count : m ≡ reductions_of r
      count = let same : answered m ≡ answered (reductions_of r) = rw e at said in cc

      pub closed-line : pairs ≤ r.sum.total → adding_line r pairs ≡ sums_line r.setting pairs m (take (places r.setting) after)
      closed-line l = rw (count, left) (adding-sums r pairs l)

-- ---- the stages

pub state-adding : (st : State) → state_cause st ≡ false → st.stage ≡ in_stage.Pairs → Adding st.running.setting st.running.sum st.pairs
unfolding state_cause
state-adding st h e = (adding-waits st (rw e at h)).adding

pub line-incoherent : (st : State) → state_cause st ≡ true → line_of st ≡ refused_line 12 0
unfolding line_of
line-incoherent st h = rw h

pub line-at : (st : State) (stage : Stage) → state_cause st ≡ false → st.stage ≡ stage → line_of st ≡ line_at stage st
unfolding line_of
line-at st stage h e = rw (h, e)

-- ---- no line is too long

number-large : (r : Numbered) → 17 < r.number → refusal_cause r ≡ true
number-large r h =
    rw (other 8 (omega arith), other 13 (omega arith), other 17 (omega arith), lt-ltb 6 r.number (omega arith), or-true (ltb r.number 1))
    (or-true (not (eqb r.place 0)))
  where
    other : (n : ℕ) → n ≤ 17 → eqb r.number n ≡ false
    other n l = ne_eqb r.number n (λ e. omega arith)

place-large : (r : Numbered) → 16000000 ≤ r.place → refusal_cause r ≡ true
place-large r h = go (eqb r.number 8) refl
  where
    go : (b : Bool) → eqb r.number 8 ≡ b → refusal_cause r ≡ true
    go true e = rw (e, le-leb 16000000 r.place h)
    go false e = rw (e, ne_eqb r.place 0 (λ z. omega arith))

settled-fits : (r : Numbered) → refusal_cause r ≡ false → length (refused_line r.number r.place) ≤ longest_line
settled-fits r h =
    refused-line-short r.number r.place
    (lt_of_le_of_lt (number-most (dec_lt 17 r.number)) (lit< tt))
    (lt_of_lt_of_le (place-most (dec_lt r.place 16000000)) (lit≤ tt))
  where
    number-most : Dec (17 < r.number) → r.number ≤ 17
    number-most (yes l) = absurd (true≢false (sym (number-large r l) ∙ h))
    number-most (no l) = omega arith

    place-most : Dec (r.place < 16000000) → r.place < 16000000
    place-most (yes l) = l
    place-most (no l) = absurd (true≢false (sym (place-large r (omega arith)) ∙ h))

adding-fits : (r : Record) (pairs : ℕ) → Adding r.setting r.sum pairs → length (adding_line r pairs) ≤ longest_line
adding-fits r pairs h = go (dec_lt r.sum.total pairs)
  where
    below : Below 65536 (sums_of r)
    below j =
        let choice = (adding-range r pairs h).choice in
        let least : closing_at r.setting r.sum j < r.setting.p = mod-lt _ (omega (arith, choice.p_low)) in
        omega (arith, choice.p_high, upto-most (places r.setting) (closing_at r.setting r.sum) j)

    go : Dec (r.sum.total < pairs) → length (adding_line r pairs) ≤ longest_line
    go (yes l) = rw (adding-early r pairs l) (refused-line-short 17 0 (lit< tt) (lit< tt))
    go (no l) = rw (adding-sums r pairs (omega arith)) (sums-line-short _ _ _ _ (adding-short r pairs h) below)

pub line-fits : (st : State) → length (line_of st) ≤ longest_line
unfolding state_cause
line-fits st = go (state_cause st) refl st.stage refl
  where
    go : (b : Bool) → state_cause st ≡ b → (stage : Stage) → st.stage ≡ stage → length (line_of st) ≤ longest_line
    go true h stage e = rw (line-incoherent st h) (refused-line-short 12 0 (lit< tt) (lit< tt))
    go false h in_stage.Header e = rw (line-at st in_stage.Header h e) (refused-line-short 17 0 (lit< tt) (lit< tt))
    go false h in_stage.Pairs e = rw (line-at st in_stage.Pairs h e) (adding-fits st.running st.pairs (state-adding st h e))
    go false h (in_stage.Refused r) e =
        let cause : settled_cause r st ≡ false = rw e at h in
        rw (line-at st (in_stage.Refused r) h e) (settled-fits r (neither (refusal_cause r) _ cause).0)

-- ---- into the buffer

-- the line in a list with room for the longest
module _ (st : State) (blank line : List ℕ) (size : ℕ) (room : longest_line ≤ length blank) (put : Puts 0 (line_of st) blank size line) where
  told : (size ≡ length (line_of st)) × (line ≡ line_of st ++ drop (length (line_of st)) blank)
  told = put-fits put (le_trans (line-fits st) room)

  pub line-room : size ≤ length line
  line-room = omega (arith, told.0, line-fits st, puts-size put)

  line-there : take size line ≡ line_of st
  line-there = rw told.1 (take_at (line_of st) _ size (sym told.0))

  module _ (old : List ℕ) where
    pub finish-short : length old < size → Finishes st old (Err in_refusal.Short) old
    finish-short h =
        writes_nothing (finish_checks (line_of st) (length old)) (line_of st) old in_refusal.Short
        (rw (lt-ltb (length old) (length (line_of st)) (omega (arith, told.0))))

    pub finish-written : {r : ℕ} {after : List ℕ} → size ≤ length old → Puts 0 (take size line) old r after → Finishes st old (Ok r) after
    finish-written h p =
        let fits : length (line_of st) ≤ length old = omega (arith, told.0) in
        let all = put-fits (rw line-there at p) fits in
        let passed : finish_checks (line_of st) (length old) ≡ fine = rw (le-ltb (length old) (length (line_of st)) fits) in
        (rw (passed, all.0), rw passed all.1)
