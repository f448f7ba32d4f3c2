-- Feeds one after the other, from the promises alone. Assumes nothing; it names no function.
--     fresh-coherent                 a fresh record of an accepted setting is coherent
--     fed-coherent, feed-coherent    a coherent record stays coherent, whatever it is fed
--     joined-pairs                   the pairs of lists that are joined are those of the first, then those of the second
--     feed-joined                    feeding two lists one after the other is feeding them joined, from any coherent record
--     feed-cut                       and back: where lists joined at a pair's end are taken, the first are, and then the others, with the same record
--     fed_by, fed-by                  a result that keeps feed's promise
use Rattle.std.specs.Prelude.{ℕ, ◌+◌, ◌*◌, ◌/◌, ◌%◌, ◌^◌, ◌<◌, ◌≡◌, refl, false, List, [], ◌++◌, length, replicate, Bool, true, Ok, Err}
use Rattle.std.proofs.Common.{sym, ap, ◌∙◌, div-add-mod', add-mul, arith, length-append, pow_pos}
use Rattle.std.proofs.Math.Nat.{zero-div, zero-mod, add-mul-mod_self_right, add-mul-div_right}
use Rattle.polynomials.specs.Lists.{coefficient}
use Rattle.polynomials.specs.ListLaws.{coefficient-zeros, below-join, below_parts}
use Rattle.polynomials.specs.PairLaws.{flat-join}
use Rattle.settings.specs.Limits.{residue_places}
use Rattle.settings.specs.Answers.{Answer, answered, refused, Verdict, fine, refuse, refuses, ◌and_then◌}
use Rattle.settings.specs.Settings.{setting_checks, base, span_of}
use Rattle.settings.specs.Coefficients.{coefficients_check, first_bad_of_two}
use Rattle.packed.specs.Overflow.{feed_overflow}
use Rattle.packed.specs.Taken.{taken, taken-length, taken-join}
use Rattle.settings.specs.Bounds.{bounds}
use Rattle.packed.specs.Running.{Coherent, fed_pairs, pair_checks, feed_checks, record_cause, pairs_cause, record_full_cause, open_pairs, kept_by, after_pairs, fresh_sum, record_of, Feeds, feed-once}
use Rattle.packed.specs.RunningLaws.{after-join, after-total, coherent-after}
use Rattle.packed.specs.FedPairs.{PairsToFeed, fed_sum, fed-operands, fed-count}
use Rattle.packed.specs.RunningChecks.{pairs-checked, pairs-pass, feed-refused, feed-fine, feed-taken, Told, feed-told}
use Rattle.settings.specs.declared.setting.Setting.{Setting}
use Rattle.packed.specs.declared.running.Sum.{Sum}
use Rattle.packed.specs.declared.running.Record.{Record}
use Rattle.settings.specs.Refusals.{number_of, place_told, refusal_of, says, result_of}
use Rattle.packed.specs.declared.running.Fed.{Fed}

pub fresh-coherent : (s : Setting) → setting_checks s ≡ fine → Coherent s fresh_sum
fresh-coherent s ok =
    let none : (j : ℕ) → coefficient (replicate residue_places 0) j ≡ 0 = coefficient-zeros [] residue_places in
    record {
      accepted = ok;
      few = omega arith;
      residues_below = λ j. rw (none j) (omega (arith, (bounds s ok).range.choice.p_low));
      residues_zero = λ j l. none j;
      fields_most = λ j l. rw (zero-div (base s ^ j), zero-mod (base s)) (omega arith);
      word_below = pow_pos (span_of s);
    }

pub fed-coherent : (s : Setting) (u : Sum) (xs ys : List ℕ) → PairsToFeed s u xs ys → Coherent s (fed_sum s u xs ys)
fed-coherent s u xs ys f = coherent-after s u (fed_pairs s xs ys) f.coherent (fed-operands s xs ys f.left_below f.right_below) (rw (fed-count s xs ys) f.room)

pub feed-coherent : (r : Record) (xs ys : List ℕ) (f : Fed) → Coherent r.setting r.sum → Feeds r xs ys f → Coherent f.running.setting f.running.sum
feed-coherent r xs ys f h promise = go (pair_checks r xs ys) refl
  where
    go : (v : Verdict) → pair_checks r xs ys ≡ v → Coherent f.running.setting f.running.sum
    go (answered w) e =
        let after : f.running ≡ record_of r.setting (fed_sum r.setting r.sum xs ys) = rw (feed-fine r xs ys e) at promise.1 in
        rw after (fed-coherent r.setting r.sum xs ys (pairs-checked r xs ys e))
    go (refused number place) e =
        let after : f.running ≡ r = rw (feed-refused r xs ys number place e) at promise.1 in
        rw after h

-- ---- lists one after the other

module _ (s : Setting) (u : Sum) (xs ys us vs : List ℕ) (f : PairsToFeed s u xs ys) where
  sides : (zs : List ℕ) → length zs ≡ length xs → length (taken s.p zs) ≡ length xs / s.k * s.k
  sides zs e = taken-length s.p zs ∙ omega (arith, div-add-mod' (length xs) s.k, f.whole)

  -- the pairs of the lists joined
  pub joined-pairs : fed_pairs s (xs ++ us) (ys ++ vs) ≡ fed_pairs s xs ys ++ fed_pairs s us vs
  joined-pairs =
      rw (taken-join s.p xs us, taken-join s.p ys vs)
      (flat-join s.k (length xs / s.k) (taken s.p xs) (taken s.p ys) (taken s.p us) (taken s.p vs) (bounds s f.coherent.accepted).range.choice.k_low (sides xs refl) (sides ys (sym f.same_size)))

  joined-count : length (xs ++ us) / s.k ≡ length xs / s.k + length us / s.k
  joined-count =
      sym (fed-count s (xs ++ us) (ys ++ vs)) ∙ rw (joined-pairs, length-append (fed_pairs s xs ys) (fed_pairs s us vs), fed-count s xs ys, fed-count s us vs)

  joined-sum : fed_sum s u (xs ++ us) (ys ++ vs) ≡ fed_sum s (fed_sum s u xs ys) us vs
  joined-sum = rw joined-pairs (after-join s u (fed_pairs s xs ys) (fed_pairs s us vs))

  joined-feeding : PairsToFeed s (fed_sum s u xs ys) us vs → PairsToFeed s u (xs ++ us) (ys ++ vs)
  joined-feeding g =
      let k = s.k in
      let total : (fed_sum s u xs ys).total ≡ u.total + length xs / k = after-total s u (fed_pairs s xs ys) ∙ rw (fed-count s xs ys) in
      let left = length-append xs us in
      let right = length-append ys vs in
      record {
        coherent = f.coherent;
        same_size = omega (arith, left, right, f.same_size, g.same_size);
        whole = omega (arith, left, div-add-mod' (length xs) k, div-add-mod' (length us) k, div-add-mod' (length (xs ++ us)) k, f.whole, g.whole, joined-count, ap (λ (n : ℕ). n * k) joined-count, add-mul (length xs / k) (length us / k) k);
        room = rw joined-count (omega (arith, total, g.room));
        left_below = below-join s.p xs us f.left_below g.left_below;
        right_below = below-join s.p ys vs f.right_below g.right_below;
      }

pub feed-joined : (r : Record) (xs ys us vs : List ℕ) (f g h : Fed) → Feeds r xs ys f → refuses (says f.answer) ≡ false → Feeds f.running us vs g → refuses (says g.answer) ≡ false
    → Feeds r (xs ++ us) (ys ++ vs) h → h ≡ record { running = g.running; answer = Ok (length xs / r.setting.k + length us / r.setting.k) }
feed-joined r xs ys us vs f g h hf nf hg ng hh =
    let s = r.setting in
    let first : Told r xs ys f = feed-told r xs ys f hf nf in
    let middle : Record = record_of s (fed_sum s r.sum xs ys) in
    let second : Told middle us vs g = rw first.after at (feed-told f.running us vs g hg ng) in
    let all = joined-feeding s r.sum xs ys us vs first.could second.could in
    let end : Sum = fed_sum s (fed_sum s r.sum xs ys) us vs in
    let made : ℕ → Fed = λ m. record { running = record_of s end; answer = Ok m } in
    let taken : Feeds r (xs ++ us) (ys ++ vs) (made (length (xs ++ us) / s.k)) = feed-taken r (xs ++ us) (ys ++ vs) end (pairs-pass r (xs ++ us) (ys ++ vs) all) (sym (joined-sum s r.sum xs ys us vs first.could)) in
    feed-once r (xs ++ us) (ys ++ vs) h (made (length (xs ++ us) / s.k)) hh taken ∙ ap made (joined-count s r.sum xs ys us vs first.could) ∙ rw second.after

-- ---- and cut again

module _ (s : Setting) (u : Sum) (xs ys us vs : List ℕ) (same : length xs ≡ length ys) (at_pair : length xs % s.k ≡ 0) (all : PairsToFeed s u (xs ++ us) (ys ++ vs)) where
  some : 0 < s.k
  some = (bounds s all.coherent.accepted).range.choice.k_low

  left_size : length (xs ++ us) ≡ length us + length xs / s.k * s.k
  left_size = omega (arith, length-append xs us, div-add-mod' (length xs) s.k, at_pair)

  rest-whole : length us % s.k ≡ 0
  rest-whole = sym (add-mul-mod_self_right (length us) (length xs / s.k) s.k) ∙ rw (← left_size) all.whole

  both-counts : length (xs ++ us) / s.k ≡ length us / s.k + length xs / s.k
  both-counts = ap (λ (n : ℕ). n / s.k) left_size ∙ add-mul-div_right (length us) (length xs / s.k) some

  first-feeding : PairsToFeed s u xs ys
  first-feeding = record {
    coherent = all.coherent;
    same_size = same;
    whole = at_pair;
    room = omega (arith, all.room, both-counts);
    left_below = (below_parts s.p xs us all.left_below).0;
    right_below = (below_parts s.p ys vs all.right_below).0;
  }

  rest-feeding : PairsToFeed s (fed_sum s u xs ys) us vs
  rest-feeding =
      let total : (fed_sum s u xs ys).total ≡ u.total + length xs / s.k = after-total s u (fed_pairs s xs ys) ∙ rw (fed-count s xs ys) in
      record {
        coherent = fed-coherent s u xs ys first-feeding;
        same_size = omega (arith, length-append xs us, length-append ys vs, same, all.same_size);
        whole = rest-whole;
        room = rw total (omega (arith, all.room, both-counts));
        left_below = (below_parts s.p xs us all.left_below).1;
        right_below = (below_parts s.p ys vs all.right_below).1;
      }

-- a feed of lists that can be fed is not refused
fed-taken : (r : Record) (xs ys : List ℕ) (f : Fed) → PairsToFeed r.setting r.sum xs ys → Feeds r xs ys f → refuses (says f.answer) ≡ false
fed-taken r xs ys f can promise = rw (promise.0, feed-fine r xs ys (pairs-pass r xs ys can))

pub feed-cut : (r : Record) (xs ys us vs : List ℕ) (h f : Fed) → length xs ≡ length ys → length xs % r.setting.k ≡ 0 → Feeds r (xs ++ us) (ys ++ vs) h → refuses (says h.answer) ≡ false
    → Feeds r xs ys f
    → (refuses (says f.answer) ≡ false) × ((g : Fed) → Feeds f.running us vs g → (refuses (says g.answer) ≡ false) × (g.running ≡ h.running))
feed-cut r xs ys us vs h f same at_pair hh nh hf =
    let s = r.setting in
    let all : PairsToFeed s r.sum (xs ++ us) (ys ++ vs) = (feed-told r (xs ++ us) (ys ++ vs) h hh nh).could in
    let nf : refuses (says f.answer) ≡ false = fed-taken r xs ys f (first-feeding s r.sum xs ys us vs same at_pair all) hf in
    let after : f.running ≡ record_of s (fed_sum s r.sum xs ys) = (feed-told r xs ys f hf nf).after in
    let can : PairsToFeed f.running.setting f.running.sum us vs = rw after (rest-feeding s r.sum xs ys us vs same at_pair all) in (
      nf,
      λ g hg.
          let ng : refuses (says g.answer) ≡ false = fed-taken f.running us vs g can hg in
          (ng, sym (ap (λ (z : Fed). z.running) (feed-joined r xs ys us vs f g h hf nf hg ng hh))),
    )

-- ---- some result of feed

-- what is refused is said by its refusal
said-check : (cause : Bool) (number place : ℕ) → says {A = Unit {0}} (Err (refusal_of number place)) ≡ refused number place → says (result_of (refuse cause number place)) ≡ refuse cause number place
said-check true number place e = e
said-check false number place e = refl

said-then : {A : Type 0} (v : Verdict) (a : Answer A) → says (result_of v) ≡ v → says (result_of a) ≡ a → says (result_of (v and_then a)) ≡ (v and_then a)
said-then (answered u) a hv ha = ha
said-then (refused number place) a hv ha =
    let n : number_of (refusal_of number place) ≡ number = cc in
    let i : place_told (refusal_of number place) ≡ place = cc in
    rw (n, i)

said-feed : (r : Record) (xs ys : List ℕ) → says (result_of (feed_checks r xs ys)) ≡ feed_checks r xs ys
unfolding feed_checks pair_checks
said-feed r xs ys =
    let k = r.setting.k in
    let c12 : Verdict = refuse (record_cause r) 12 0 in
    let c9 : Verdict = refuse (pairs_cause k (length xs) (length ys)) 9 0 in
    let c13 : Verdict = refuse (record_full_cause r.sum.total (length xs / k)) 13 0 in
    let c8 : Verdict = coefficients_check r.setting.p xs ys in
    let c18 : Verdict = refuse (feed_overflow r.setting (open_pairs r.setting r.sum) r.sum.word xs ys) 18 0 in
    said-then (c12 and_then c9 and_then c13 and_then c8) c18
    (said-then c12 (c9 and_then c13 and_then c8) (said-check _ 12 0 refl)
    (said-then c9 (c13 and_then c8) (said-check _ 9 0 refl)
    (said-then c13 c8 (said-check _ 13 0 refl) (said-check _ 8 (first_bad_of_two r.setting.p xs ys) refl))))
    (said-check _ 18 0 refl)

abbrev pub fed_by : Record → List ℕ → List ℕ → Fed
fed_by r xs ys = record {
  running = kept_by (feed_checks r xs ys) (record_of r.setting (after_pairs r.setting r.sum (fed_pairs r.setting xs ys))) r;
  answer = result_of (feed_checks r xs ys and_then answered (length xs / r.setting.k));
}

pub fed-by : (r : Record) (xs ys : List ℕ) → Feeds r xs ys (fed_by r xs ys)
fed-by r xs ys = (said-then (feed_checks r xs ys) (answered (length xs / r.setting.k)) (said-feed r xs ys) refl, refl)
