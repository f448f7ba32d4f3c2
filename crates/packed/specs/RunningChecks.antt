-- What passing the checks of feed and close says, and that 18 never holds. Assumes nothing.
--     pairs-shape, pairs-refused    9 is not given exactly where two lists have one length, a multiple of k; and else it is
--     pairs-checked, pairs-pass     nothing is refused up to 8 exactly where the lists can be fed
--     never-feeds-over              no batch of a coherent record reaches 2^64
--     feed-refused, feed-fine       so feed refuses what is refused up to 8, and nothing else
--     coherent_numbers, coherent-gives
--                                   the numbers that it gives of a coherent record, and no other: 9, 13 and 8
--     feed-nothing, feed-taken      what keeps feed's promise: the record as it was beside a refusal, and the sum after all pairs
--     Told, feed-told               a feed that was not refused: the lists could be fed, what it answered, and the record after it
--     close-checked, close-pass     what passing the checks of close says; what is left of them for a coherent record
--     close-nothing, close-written  what keeps its promise: the list as it was beside a refusal, and the list filled
use Rattle.std.specs.Prelude.{ℕ, zero, suc, ◌+◌, ◌-◌, ◌/◌, ◌%◌, ◌^◌, ◌≤◌, ◌<◌, min, ◌≡◌, refl, List, [], ◌∷◌, Bool, true, false, not, ◌↔◌, eqb, length, Result, Ok, Err}
use Rattle.std.proofs.Common.{sym, ◌∙◌, true≢false, mod-lt, arith}
use Rattle.std.proofs.lemmas.Bool.{eqb-true, eq-eqb, not-false, ltb-false, le-ltb, lt-leb}
use Rattle.polynomials.specs.Tests.{neither}
use Rattle.polynomials.specs.Indices.{filled, rounded_up}
use Rattle.polynomials.specs.IndexLaws.{length-upto, upto-at, some-none}
use Rattle.polynomials.specs.Lists.{coefficient, Pair, Pairs}
use Rattle.polynomials.specs.Blocks.{block_at, dot}
use Rattle.settings.specs.Limits.{most_pairs, word_bits}
use Rattle.settings.specs.Answers.{answered, refused, Verdict, fine, refuses, refuse, is_in, Given}
use Rattle.settings.specs.AnswerLaws.{never, passed, passed-last, given-check, given-then}
use Rattle.settings.specs.SharedAnswers.{short_cause}
use Rattle.settings.specs.Settings.{base, places}
use Rattle.settings.specs.Coefficients.{too_large, coefficients-check, coefficients-gives}
use Rattle.packed.specs.Taken.{taken}
use Rattle.settings.specs.Bounds.{bounds, pairs-fit}
use Rattle.packed.specs.Overflow.{run_sums, feed_overflow}
use Rattle.packed.specs.Running.{open_pairs, record_cause, Coherent, pairs_cause, record_full_cause, pair_checks, feed_checks, close_checks, record_of, Feeds, closing_at, Closes}
use Rattle.packed.specs.RunningLaws.{coherent-is, open-room}
use Rattle.packed.specs.FedPairs.{run-count, run-words, run-operands, pairs_from, PairsToFeed, fed_sum}
use Rattle.settings.specs.declared.refusals.Refusal.{Refusal}
use Rattle.settings.specs.declared.setting.Setting.{Setting}
use Rattle.packed.specs.declared.running.Sum.{Sum}
use Rattle.packed.specs.declared.running.Record.{Record}
use Rattle.settings.specs.Refusals.{number_of, place_told, says, says-once}
use Rattle.packed.specs.declared.running.Fed.{Fed}

pub pairs-shape : (k m n : ℕ) → (pairs_cause k m n ≡ false) ↔ ((m ≡ n) × (m % k ≡ 0))
pairs-shape k m n = (
  λ e. let both = neither (not (eqb m n)) (not (eqb (m % k) 0)) e in
      (eqb-true m n (not-false (eqb m n) both.0), eqb-true (m % k) 0 (not-false (eqb (m % k) 0) both.1)),
  λ h. rw (eq-eqb m n h.0, eq-eqb (m % k) 0 h.1),
)

pub pairs-refused : (k m n : ℕ) → ((m ≡ n) × (m % k ≡ 0) → ⊥) → pairs_cause k m n ≡ true
pairs-refused k m n h = go (pairs_cause k m n) refl
  where
    go : (c : Bool) → pairs_cause k m n ≡ c → c ≡ true
    go true e = refl
    go false e = absurd (h ((pairs-shape k m n).0 e))

pub pairs-checked : (r : Record) (xs ys : List ℕ) → pair_checks r xs ys ≡ fine → PairsToFeed r.setting r.sum xs ys
unfolding pair_checks
pairs-checked r xs ys e =
    let s = r.setting in
    let a = passed (record_cause r) 12 0 _ tt e in
    let b = passed (pairs_cause s.k (length xs) (length ys)) 9 0 _ tt a.1 in
    let c = passed (record_full_cause r.sum.total (length xs / s.k)) 13 0 _ tt b.1 in
    let h = (coherent-is r).0 a.0 in
    let shape = (pairs-shape s.k (length xs) (length ys)).0 b.0 in
    let below = (coefficients-check s.p xs ys (omega (arith, (bounds s h.accepted).range.choice.p_low))).0 c.1 in
    record {
      coherent = h;
      same_size = shape.0;
      whole = shape.1;
      room = ltb-false most_pairs (r.sum.total + length xs / s.k) c.0;
      left_below = below.0;
      right_below = below.1;
    }

pub pairs-pass : (r : Record) (xs ys : List ℕ) → PairsToFeed r.setting r.sum xs ys → pair_checks r xs ys ≡ fine
unfolding pair_checks
pairs-pass r xs ys f =
    let s = r.setting in
    rw (
      (coherent-is r).1 f.coherent,
      (pairs-shape s.k (length xs) (length ys)).1 (f.same_size, f.whole),
      le-ltb most_pairs (r.sum.total + length xs / s.k) f.room,
      (coefficients-check s.p xs ys (omega (arith, (bounds s f.coherent.accepted).range.choice.p_low))).1 (f.left_below, f.right_below),
    )

-- ---- 18

module _ (s : Setting) (u : Sum) (xs ys : List ℕ) (f : PairsToFeed s u xs ys) where
  abbrev m : ℕ
  m = length xs / s.k

  abbrev x : ℕ → ℕ
  x = block_at (base s) s.k (taken s.p xs)

  abbrev y : ℕ → ℕ
  y = block_at (base s) s.k (taken s.p ys)

  abbrev run : ℕ → ℕ → List Pair
  run i n = pairs_from s xs ys i n

  operands : (i n : ℕ) → Pairs s.p s.k (run i n)
  operands i n = run-operands s xs ys i n f.left_below f.right_below

  run_fits : (i n : ℕ) → n ≤ s.n → dot x y i i n < 2 ^ 64
  run_fits i n few = rw (← run-words s xs ys i n) (pairs-fit s (bounds s f.coherent.accepted) (run i n) (operands i n) (rw (run-count s xs ys i n) few))

  open-fits : u.word + dot x y 0 0 (min (s.n - open_pairs s u) m) < 2 ^ 64
  open-fits =
      let n : ℕ = min (s.n - open_pairs s u) m in
      let within : open_pairs s u + n ≤ s.n = omega (arith, mod-lt u.total (bounds s f.coherent.accepted).range.choice.n_low) in
      rw (← run-words s xs ys 0 n) (open-room s u f.coherent (run 0 n) (operands 0 n) (rw (run-count s xs ys 0 n) within))

  pub never-feeds-over : feed_overflow s (open_pairs s u) u.word xs ys ≡ false
  unfolding feed_overflow
  never-feeds-over =
      (some-none (too_large (2 ^ word_bits) sums) (length sums)).1 (λ i l. lt-leb (2 ^ word_bits) (coefficient sums i) (at i l))
    where
      sums : List ℕ
      sums = (u.word + dot x y 0 0 (min (s.n - open_pairs s u) m)) ∷ run_sums s.n m x y

      at : (i : ℕ) → i < length sums → coefficient sums i < 2 ^ 64
      at zero l = open-fits
      at (suc i) l = rw (upto-at m (λ i. dot x y i i (min s.n (m - i))) i (inside l)) (run_fits i (min s.n (m - i)) (omega arith))
        where
          inside : suc i < suc (length (run_sums s.n m x y)) → i < m
          inside h = omega (arith, length-upto m (λ i. dot x y i i (min s.n (m - i))))

pub feed-refused : (r : Record) (xs ys : List ℕ) (number place : ℕ) → pair_checks r xs ys ≡ refused number place → feed_checks r xs ys ≡ refused number place
unfolding feed_checks
feed-refused r xs ys number place e = rw e

pub feed-fine : (r : Record) (xs ys : List ℕ) → pair_checks r xs ys ≡ fine → feed_checks r xs ys ≡ fine
unfolding feed_checks
feed-fine r xs ys e = rw (e, never-feeds-over r.setting r.sum xs ys (pairs-checked r xs ys e))

abbrev pub coherent_numbers : List ℕ
coherent_numbers = 9 ∷ 13 ∷ 8 ∷ []

module _ (r : Record) (xs ys : List ℕ) (h : Coherent r.setting r.sum) where
  before-8 : Given coherent_numbers (pair_checks r xs ys)
  unfolding pair_checks
  before-8 =
      rw ((coherent-is r).1 h)
      (given-then (given-check (pairs_cause r.setting.k (length xs) (length ys)) 9 0)
      (given-then (given-check (record_full_cause r.sum.total (length xs / r.setting.k)) 13 0) (coefficients-gives r.setting.p xs ys)))

  pub coherent-gives : Given coherent_numbers (feed_checks r xs ys)
  coherent-gives = record { each = go (pair_checks r xs ys) refl }
    where
      go : (v : Verdict) → pair_checks r xs ys ≡ v → (number place : ℕ) → feed_checks r xs ys ≡ refused number place → is_in number coherent_numbers ≡ true
      go (answered u) e number place refusal = absurd (never number place tt (sym refusal ∙ feed-fine r xs ys e))
      go (refused n i) e number place refusal = before-8.each number place (e ∙ sym (feed-refused r xs ys n i e) ∙ refusal)

pub feed-nothing : (r : Record) (xs ys : List ℕ) (why : Refusal) → pair_checks r xs ys ≡ refused (number_of why) (place_told why) → Feeds r xs ys (record { running = r; answer = Err why })
feed-nothing r xs ys why e = let all = feed-refused r xs ys (number_of why) (place_told why) e in (rw all, rw all)

pub feed-taken : (r : Record) (xs ys : List ℕ) (u : Sum) → pair_checks r xs ys ≡ fine → u ≡ fed_sum r.setting r.sum xs ys
    → Feeds r xs ys (record { running = record_of r.setting u; answer = Ok (length xs / r.setting.k) })
feed-taken r xs ys u e is = let all = feed-fine r xs ys e in (rw all, rw (all, is))

counted-only : (a : Result ℕ Refusal) (m : ℕ) → says a ≡ answered m → a ≡ Ok m
counted-only a m e = says-once a (Ok m) (answered m) e refl

pub record Told (r : Record) (xs ys : List ℕ) (f : Fed) : Type 0 where
  pub could : PairsToFeed r.setting r.sum xs ys
  pub took : f.answer ≡ Ok (length xs / r.setting.k)
  pub after : f.running ≡ record_of r.setting (fed_sum r.setting r.sum xs ys)

pub feed-told : (r : Record) (xs ys : List ℕ) (f : Fed) → Feeds r xs ys f → refuses (says f.answer) ≡ false → Told r xs ys f
feed-told r xs ys f h took = go (pair_checks r xs ys) refl
  where
    go : (v : Verdict) → pair_checks r xs ys ≡ v → Told r xs ys f
    go (answered w) e =
        record {
          could = pairs-checked r xs ys e;
          took = counted-only f.answer (length xs / r.setting.k) (rw (feed-fine r xs ys e) at h.0);
          after = rw (feed-fine r xs ys e) at h.1;
        }
    go (refused number place) e =
        let said : says f.answer ≡ refused number place = rw (feed-refused r xs ys number place e) at h.0 in
        absurd (true≢false (rw said at took))

pub close-checked : (r : Record) (len : ℕ) → close_checks r len ≡ fine → Coherent r.setting r.sum × (places r.setting ≤ len)
unfolding close_checks
close-checked r len e =
    let a = passed (record_cause r) 12 0 _ tt e in
    ((coherent-is r).0 a.0, ltb-false len (places r.setting) (passed-last (short_cause (places r.setting) len) 10 0 a.1))

pub close-pass : (r : Record) (len : ℕ) → Coherent r.setting r.sum → close_checks r len ≡ refuse (short_cause (places r.setting) len) 10 0
unfolding close_checks
close-pass r len h = rw ((coherent-is r).1 h)

pub close-nothing : (r : Record) (old : List ℕ) (why : Refusal) → close_checks r (length old) ≡ refused (number_of why) (place_told why) → Closes r old (Err why) old
close-nothing r old why e = (rw e, rw e)

pub close-written : (r : Record) (old after : List ℕ) → close_checks r (length old) ≡ fine → after ≡ filled (places r.setting) (closing_at r.setting r.sum) old
    → Closes r old (Ok (rounded_up r.sum.total r.setting.n)) after
close-written r old after e h = (rw e, rw (e, length-upto (places r.setting) (closing_at r.setting r.sum)) h)
