-- The state after any pieces, and the line at the end. Assumes nothing; it names promises, and no function.
--     Bytes bs                     every number of a list is a byte
--     after_more                   taking bytes after others is taking them joined
--     line_after                   finishing after bytes gives the line of the job that they are
--     TakeCall, TakeCalls st calls z
--                                  calls of take, one after the other, from the state st to z; pieces, all that they were given, joined
--     state-alone                  from a start the state depends on the joined bytes alone, however they are cut
--     finish-line                  and finishing gives the job's line
use Rattle.std.proofs.lemmas.Bool.{lt-leb, ne_eqb}
use Rattle.std.specs.Prelude.{◌≡◌, Bool, true, false, ltb, length, take, Result, ℕ, ◌+◌, ◌-◌, ◌*◌, ◌/◌, ◌≤◌, ◌<◌, List, [], ◌∷◌, ◌++◌}
use Rattle.std.proofs.Math.Path.{refl, sym, ap}
use Rattle.std.proofs.Common.{◌∙◌, mul_comm, mul-le-mul_right, div-lt_iff_lt-mul, arith, length-append, length-take, length-drop, get_or-drop, take_all, append-nil, append_assoc, lt-ltb, le-ltb, eq-eqb}
use Rattle.std.proofs.Math.Nat.{zero-add, mul-zero, sub-zero}
use Rattle.std.proofs.Math.Decide.{dec_lt}
use Rattle.std.proofs.Math.ListN.{drop, get_or-append}
use Rattle.std.proofs.lemmas.List.{drop-append-le}
use Rattle.polynomials.specs.Indices.{pick, upto, rounded_up}
use Rattle.polynomials.specs.Lists.{coefficient}
use Rattle.polynomials.specs.ListLaws.{coefficient-after}
use Rattle.settings.specs.Answers.{answered, refused, Verdict, fine, refuse, ◌and_then◌}
use Rattle.settings.specs.SharedAnswers.{Writes}
use Rattle.settings.specs.Settings.{places}
use Rattle.settings.specs.Coefficients.{first_bad, coefficient_check}
use Rattle.packed.specs.Taken.{taken}
use Rattle.settings.specs.Bounds.{bounds}
use Rattle.packed.specs.Running.{fresh_sum, record_of, closing_at}
use Rattle.packed.specs.Calls.{schoolbook}
use Rattle.packed.specs.SumOfPairs.{sum-fresh, closing-sum}
use Rattle.settings.specs.declared.setting.Setting.{Setting}
use Rattle.packed.specs.declared.running.Sum.{Sum}
use Rattle.jobs.specs.Lines.{sums_line, refused_line}
use Rattle.jobs.specs.Jobs.{header_bytes, length_in, setting_in, pair_bytes, declared_bytes, declared_pairs, coefficients_in, pairs_in, given_in, end_cause, job_pairs, header_checks, job_checks, line_by, job_line}
use Rattle.jobs.specs.States.{room, blank, heading, settled, settling, adding, body_checks, whole_bytes, sum_after, pairs_after, header_after, refusal_cause, state_cause, taken_by, line_of, Starts, Takes, finish_checks, Finishes}
use Rattle.jobs.specs.Adding.{Adding}
use Rattle.jobs.specs.ByteLaws.{length-coefficients_in}
use Rattle.jobs.specs.AddingLaws.{sum-total, pairs_below}
use Rattle.jobs.specs.TakingLaws.{Fits, checks-fit, checks-stay, back-short, held_fits, adding-next, pairs-on}
use Rattle.jobs.specs.HeaderLaws.{Header, header-passed, header-adding, header-room, setting_same, declared_same, header-same}
use Rattle.jobs.specs.CoherentLaws.{heading-coherent, settled-coherent, adding-coherent, header-refusal, held_back}
use Rattle.jobs.specs.declared.state.State.{State}
use Rattle.jobs.specs.declared.state.Stage.TheVariants as in_stage
use Rattle.settings.specs.declared.refusals.Refusal.{Refusal}

abbrev pub Bytes : List ℕ → Type 0
Bytes bs = (j : ℕ) → coefficient bs j ≤ 255

bytes_drop : (n : ℕ) (bs : List ℕ) → Bytes bs → Bytes (drop n bs)
bytes_drop n bs b j = rw (get_or-drop n bs j 0) (b (n + j))

-- ---- one more piece

settled_on : (number place : ℕ) (ys : List ℕ) → taken_by (settled number place) ys ≡ settled number place
unfolding taken_by
settled_on number place ys = go (state_cause (settled number place))
  where
    go : (b : Bool) → pick b (settled number place) (settled number place) ≡ settled number place
    go true = refl
    go false = refl

heading-on : (bs ys : List ℕ) → Bytes bs → length bs < header_bytes → taken_by (heading bs) ys ≡ header_after (bs ++ ys)
unfolding taken_by
heading-on bs ys b h = rw (heading-coherent bs b h, held_back in_stage.Header bs 0 blank (omega arith))

module _ (s : Setting) (u : Sum) (pairs : ℕ) (a : Adding s u pairs) (bs : List ℕ) (b : Bytes bs) where
  adding-on : (f : Fits s u pairs bs) (ys : List ℕ) → taken_by (adding s (sum_after s u bs) pairs (drop (whole_bytes s.k (length bs)) bs)) ys ≡ pairs_after s u pairs (bs ++ ys)
  unfolding taken_by
  adding-on f ys =
      let back : List ℕ = drop (whole_bytes s.k (length bs)) bs in
      let held = held_fits s u pairs a bs f in
      let short = back-short s u pairs a bs f in
      rw (adding-coherent s (sum_after s u bs) pairs back (bytes_drop (whole_bytes s.k (length bs)) bs b) (adding-next s u pairs a bs f) short held.few held.below, held_back in_stage.Pairs back pairs (record_of s (sum_after s u bs)) (omega (arith, (bounds s a.coherent.accepted).range.choice.k_high)))
      (sym (pairs-on s u pairs a bs f ys))

  adding-more : (ys : List ℕ) → taken_by (pairs_after s u pairs bs) ys ≡ pairs_after s u pairs (bs ++ ys)
  unfolding pairs_after
  adding-more ys = go (body_checks s u pairs bs) refl
    where
      next : List ℕ → State
      next zs = adding s (sum_after s u zs) pairs (drop (whole_bytes s.k (length zs)) zs)

      go : (v : Verdict) → body_checks s u pairs bs ≡ v → taken_by (settling (body_checks s u pairs bs) (next bs)) ys ≡ settling (body_checks s u pairs (bs ++ ys)) (next (bs ++ ys))
      go (answered x) e = rw e (adding-on (checks-fit s u pairs a bs e) ys)
      go (refused number place) e = rw (e, checks-stay s u pairs a bs ys number place e) (settled_on number place ys)

pub after_more : (bs ys : List ℕ) → Bytes bs → taken_by (header_after bs) ys ≡ header_after (bs ++ ys)
unfolding header_after
after_more bs ys b = go (dec_lt (length bs) header_bytes)
  where
    at : List ℕ → State
    at zs = settling (header_checks zs) (pairs_after (setting_in zs) fresh_sum (declared_pairs zs) (drop header_bytes zs))

    opened : header_bytes ≤ length bs → (v : Verdict) → header_checks bs ≡ v → taken_by (at bs) ys ≡ at (bs ++ ys)
    opened h (answered x) e =
        rw (header-same bs ys h, e, setting_same bs ys h, declared_same bs ys h, drop-append-le header_bytes bs ys h)
        (adding-more (setting_in bs) fresh_sum (declared_pairs bs) (header-adding bs (header-passed bs e)) (drop header_bytes bs) (bytes_drop header_bytes bs b) ys)
    opened h (refused number place) e = rw (header-same bs ys h, e) (settled_on number place ys)

    go : Dec (length bs < header_bytes) → taken_by (pick (ltb (length bs) header_bytes) (heading bs) (at bs)) ys ≡ pick (ltb (length (bs ++ ys)) header_bytes) (heading (bs ++ ys)) (at (bs ++ ys))
    go (yes l) = rw (lt-ltb (length bs) header_bytes l) (heading-on bs ys b l)
    go (no l) =
        let h : header_bytes ≤ length bs = omega arith in
        rw (le-ltb (length bs) header_bytes h, le-ltb (length (bs ++ ys)) header_bytes (omega (arith, length-append bs ys))) (opened h (header_checks bs) refl)

-- ---- the line

line-settled : (number place : ℕ) → refusal_cause (record { number = number; place = place }) ≡ false → line_of (settled number place) ≡ refused_line number place
unfolding line_of
line-settled number place h = rw (settled-coherent (record { number = number; place = place }) h)

-- an accepted header
module _ (bs : List ℕ) (b : Bytes bs) (e : header_checks bs ≡ fine) where
  h : Header bs
  h = header-passed bs e

  abbrev s : Setting
  s = setting_in bs

  abbrev rest : List ℕ
  rest = drop header_bytes bs

  adds : Adding s fresh_sum (declared_pairs bs)
  adds = header-adding bs h

  abbrev all : ℕ
  all = room s fresh_sum (declared_pairs bs)

  given : coefficients_in (take all rest) ≡ given_in bs
  given = rw (header-room bs h)

  -- the checks on a job whose header is accepted, in the state's terms
  tail : job_checks bs ≡ (coefficient_check s.p (given_in bs) and_then refuse (end_cause bs) 17 0)
  unfolding job_checks
  tail = rw e

  body : body_checks s fresh_sum (declared_pairs bs) rest ≡ (coefficient_check s.p (given_in bs) and_then refuse (ltb all (length rest)) 17 0)
  unfolding body_checks
  body = rw (given, mul-zero (2 * s.k), zero-add (first_bad s.p (given_in bs)))

  few-indices : length (given_in bs) ≤ 16000000
  few-indices =
      let k = (bounds s h.accepted).range.choice.k_high in
      let most : all ≤ 32 * declared_pairs bs = rw (sub-zero (declared_pairs bs)) (mul-le-mul_right {m = pair_bytes s.k} {n = 32} (declared_pairs bs) (omega (arith, k))) in
      omega (arith, length-coefficients_in (take all rest), ap length given, length-take all rest, most, h.few)

  bad-index : first_bad s.p (given_in bs) < length (given_in bs) → refusal_cause (record { number = 8; place = first_bad s.p (given_in bs) }) ≡ false
  bad-index l = lt-leb 16000000 (first_bad s.p (given_in bs)) (omega (arith, few-indices))

  sizes : length rest + header_bytes ≡ length bs
  sizes = omega (arith, length-drop header_bytes bs, h.long)

  ends : (length bs ≡ 4 + length_in bs → ⊥) → end_cause bs ≡ true
  ends n = rw (ne_eqb (length bs) (4 + length_in bs) n)

  abbrev after : Sum
  after = sum_after s fresh_sum rest

  abbrev line : List ℕ
  line = sums_line s (declared_pairs bs) (rounded_up (declared_pairs bs) s.n) (schoolbook s (job_pairs bs))

  module _ (f : Fits s fresh_sum (declared_pairs bs) rest) where
    abbrev next : State
    next = adding s after (declared_pairs bs) (drop (whole_bytes s.k (length rest)) rest)

    coherent : state_cause next ≡ false
    coherent =
        let held = held_fits s fresh_sum (declared_pairs bs) adds rest f in
        adding-coherent s after (declared_pairs bs) (drop (whole_bytes s.k (length rest)) rest) (bytes_drop (whole_bytes s.k (length rest)) rest (bytes_drop header_bytes bs b)) (adding-next s fresh_sum (declared_pairs bs) adds rest f) (back-short s fresh_sum (declared_pairs bs) adds rest f) held.few held.below

    added : after.total ≡ length rest / pair_bytes s.k
    added = sum-total s fresh_sum (bounds s h.accepted).range.choice.k_low rest ∙ zero-add (length rest / pair_bytes s.k)

    complete : length rest ≡ all → after.total ≡ declared_pairs bs
    complete same = added ∙ rw (same, header-room bs h)

    sums : length rest ≡ all → upto (places s) (closing_at s after) ≡ schoolbook s (job_pairs bs)
    unfolding sum_after
    sums same =
        let whole : given_in bs ≡ coefficients_in rest = sym given ∙ ap coefficients_in (take_all all rest (omega arith)) in
        let pc = pairs_below s fresh_sum (bounds s h.accepted).range.choice.k_low rest f.below in
        rw (whole, sum-fresh s h.accepted (pairs_in s.k (taken s.p (coefficients_in rest))) pc) (closing-sum s h.accepted (pairs_in s.k (taken s.p (coefficients_in rest))) pc)

    line-complete : length rest ≡ all → line_of next ≡ line
    unfolding line_of
    line-complete same = rw (coherent, complete same, le-ltb (declared_pairs bs) (declared_pairs bs) (omega arith), sums same)

    line-early : length rest < all → line_of next ≡ refused_line 17 0
    unfolding line_of
    line-early l = rw (coherent, lt-ltb after.total (declared_pairs bs) early)
      where
        early : after.total < declared_pairs bs
        early = rw added ((div-lt_iff_lt-mul {k = pair_bytes s.k} (omega (arith, (bounds s h.accepted).range.choice.k_low))).1 (rw (mul_comm (declared_pairs bs) (pair_bytes s.k)) (rw (sub-zero (declared_pairs bs)) at l)))

  -- a coefficient that is too large, extra bytes, and neither
  line-body : line_of (pairs_after s fresh_sum (declared_pairs bs) rest) ≡ job_line bs
  unfolding pairs_after job_line
  line-body = go (dec_lt (first_bad s.p (given_in bs)) (length (given_in bs))) (dec_lt all (length rest)) (dec_lt (length rest) all)
    where
      next2 : State
      next2 = adding s after (declared_pairs bs) (drop (whole_bytes s.k (length rest)) rest)

      declared : declared_bytes bs ≡ all
      declared = sym (header-room bs h)

      go : Dec (first_bad s.p (given_in bs) < length (given_in bs)) → Dec (all < length rest) → Dec (length rest < all)
          → line_of (settling (body_checks s fresh_sum (declared_pairs bs) rest) next2) ≡ line_by (job_checks bs) line
      go (yes l) extra early = rw (body, tail, lt-ltb (first_bad s.p (given_in bs)) (length (given_in bs)) l) (line-settled 8 (first_bad s.p (given_in bs)) (bad-index l))
      go (no l) (yes extra) early =
          rw (body, tail, le-ltb (first_bad s.p (given_in bs)) (length (given_in bs)) (omega arith), lt-ltb all (length rest) extra, ends (λ same. omega (arith, same, sizes, declared, h.counted)))
          (line-settled 17 0 refl)
      go (no l) (no extra) early =
          let good = le-ltb (first_bad s.p (given_in bs)) (length (given_in bs)) (omega arith) in
          let few = le-ltb all (length rest) (omega arith) in
          let checks : body_checks s fresh_sum (declared_pairs bs) rest ≡ fine = body ∙ rw (good, few) in
          let f : Fits s fresh_sum (declared_pairs bs) rest = checks-fit s fresh_sum (declared_pairs bs) adds rest checks in
          rw (checks, tail, good) (fitted f extra early)
        where
          fitted : Fits s fresh_sum (declared_pairs bs) rest → (all < length rest → ⊥) → Dec (length rest < all) → line_of next2 ≡ line_by (refuse (end_cause bs) 17 0) line
          fitted f extra (yes l) = rw (ends (λ same. omega (arith, same, sizes, declared, h.counted))) (line-early f l)
          fitted f extra (no l) =
              let same : length rest ≡ all = omega arith in
              let whole : length bs ≡ 4 + length_in bs = omega (arith, sizes, declared, h.counted) in
              rw (eq-eqb (length bs) (4 + length_in bs) whole) (line-complete f same)

line_refused : (bs : List ℕ) (number place : ℕ) → header_checks bs ≡ refused number place → job_line bs ≡ refused_line number place
unfolding job_line job_checks
line_refused bs number place e = rw e

header-short : (bs : List ℕ) → length bs < header_bytes → header_checks bs ≡ refused 17 0
unfolding header_checks
header-short bs l = rw (lt-ltb (length bs) header_bytes l)

line-heading : (bs : List ℕ) → Bytes bs → length bs < header_bytes → line_of (heading bs) ≡ refused_line 17 0
unfolding line_of
line-heading bs b l = rw (heading-coherent bs b l)

pub line_after : (bs : List ℕ) → Bytes bs → line_of (header_after bs) ≡ job_line bs
unfolding header_after
line_after bs b = go (dec_lt (length bs) header_bytes) (header_checks bs) refl
  where
    opened : State
    opened = settling (header_checks bs) (pairs_after (setting_in bs) fresh_sum (declared_pairs bs) (drop header_bytes bs))

    go : Dec (length bs < header_bytes) → (v : Verdict) → header_checks bs ≡ v → line_of (pick (ltb (length bs) header_bytes) (heading bs) opened) ≡ job_line bs
    go (yes l) v e = rw (lt-ltb (length bs) header_bytes l) (line-heading bs b l ∙ sym (line_refused bs 17 0 (header-short bs l)))
    go (no l) (answered x) e = rw (le-ltb (length bs) header_bytes (omega arith), e) (line-body bs b e)
    go (no l) (refused number place) e = rw (le-ltb (length bs) header_bytes (omega arith), e) (line-settled number place (header-refusal bs number place e) ∙ sym (line_refused bs number place e))

-- ---- any pieces

pub record TakeCall : Type 0 where
  pub piece : List ℕ
  pub gave : State

abbrev pub TakeCalls : State → List TakeCall → State → Type 0
TakeCalls st [] z = st ≡ z
TakeCalls st (c ∷ calls) z = Bytes c.piece × Takes st c.piece c.gave × TakeCalls c.gave calls z

abbrev pub pieces : List TakeCall → List ℕ
pieces [] = []
pieces (c ∷ calls) = c.piece ++ pieces calls

bytes-join : (xs ys : List ℕ) → Bytes xs → Bytes ys → Bytes (xs ++ ys)
bytes-join xs ys hx hy j = go (dec_lt j (length xs))
  where
    go : Dec (j < length xs) → coefficient (xs ++ ys) j ≤ 255
    go (yes l) = rw (get_or-append xs ys 0 j l) (hx j)
    go (no l) = rw (coefficient-after xs ys j (omega arith)) (hy (j - length xs))

calls-after : (bs : List ℕ) → Bytes bs → (calls : List TakeCall) (z : State) → TakeCalls (header_after bs) calls z → Bytes (bs ++ pieces calls) × (z ≡ header_after (bs ++ pieces calls))
calls-after bs b [] z e = rw (append-nil bs) (b, sym e)
calls-after bs b (c ∷ calls) z e =
    let next : c.gave ≡ header_after (bs ++ c.piece) = e.1 ∙ after_more bs c.piece b in
    rw (append_assoc bs c.piece (pieces calls)) at (calls-after (bs ++ c.piece) (bytes-join bs c.piece b e.0) calls z (rw next at e.2))

start-after : heading [] ≡ header_after []
unfolding header_after
start-after = refl

module _ (st z : State) (calls : List TakeCall) (began : Starts st) (took : TakeCalls st calls z) where
  reached : Bytes (pieces calls) × (z ≡ header_after (pieces calls))
  reached = calls-after [] (λ j. omega arith) calls z (rw (began ∙ start-after) at took)

  pub state-alone : z ≡ header_after (pieces calls)
  state-alone = reached.1

  pub finish-line : (old after : List ℕ) (r : Result ℕ Refusal) → Finishes z old r after → Writes (finish_checks (job_line (pieces calls)) (length old)) (job_line (pieces calls)) old r after
  finish-line old after r done = rw (state-alone, line_after (pieces calls) reached.0) at done
