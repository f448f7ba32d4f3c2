-- Laws of taking bytes while pairs are added up. Assumes nothing.
--     bad-after, bad-first         the first bad coefficient of joined lists: in the second, where the first has none; in the first, where it has one
--     Fits s u pairs bs            bytes that no check refuses: no more than are to come, with all coefficients below p
--     checks-fit                   what no check refuses fits
--     pairs-step                   whole pairs that fit are added up, and then the other bytes are taken
--     back-short, pairs-left       of bytes that fit less than a pair is left, and the record has room for the whole pairs
--     front-feedable, front-sum    of bytes that fit the whole pairs can be fed, and that adds up all
--     held_fits, adding-next       after bytes that fit, what is held fits too, and there is a coherent record with room for the pairs to come
--     pairs-on, checks-stay        bytes after others: they are taken after what is held of those; after a refusal nothing changes
--     adds stage                   whether pairs are added up at a stage
--     came-adding, came-other      after a whole pair the other bytes are taken, or nothing changes
use Rattle.std.proofs.lemmas.Bool.{lt-leb}
use Rattle.std.specs.Prelude.{◌≡◌, Bool, true, false, ltb, drop, ℕ, ◌+◌, ◌-◌, ◌*◌, ◌/◌, ◌%◌, ◌≤◌, ◌<◌, List, [], ◌++◌}
use Rattle.std.proofs.Math.Path.{refl, sym, ap}
use Rattle.std.proofs.Common.{◌∙◌, true≢false, mul_comm, mul-add, add-mul, mul-div_cancel, one-mul, le_of_mul-le-mul_right, div-add-mod', mod-lt, arith, length-take, length-drop, take-append-drop, get_or-take, length-take-le, append_assoc, lt-ltb, le-ltb, ltb-false}
use Rattle.std.proofs.Math.Nat.{mul-mod_left, div_self}
use Rattle.std.proofs.Math.Decide.{dec_lt}
use Rattle.std.proofs.Math.ListN.{length, take, length-append, get_or-append}
use Rattle.std.proofs.Math.Seq.{take_all, drop-length, take-append-add, drop-append-add}
use Rattle.std.proofs.lemmas.List.{take-append-le}
use Rattle.polynomials.specs.Indices.{First}
use Rattle.polynomials.specs.IndexLaws.{upto-at, first-is, first-only}
use Rattle.polynomials.specs.Lists.{coefficient, Below}
use Rattle.polynomials.specs.ListLaws.{coefficient-after, below_parts}
use Rattle.layout.specs.Numbers.{number_at, number_at-same}
use Rattle.settings.specs.Answers.{answered, refused, Verdict, fine, refuse, ◌and_then◌}
use Rattle.settings.specs.AnswerLaws.{never, passed, passed-last}
use Rattle.settings.specs.Coefficients.{too_large, first_bad, coefficient_check, coefficient-check}
use Rattle.settings.specs.Bounds.{bounds}
use Rattle.settings.specs.declared.setting.Setting.{Setting}
use Rattle.packed.specs.declared.running.Sum.{Sum}
use Rattle.jobs.specs.declared.state.State.{State}
use Rattle.jobs.specs.declared.state.Stage.{Stage}
use Rattle.jobs.specs.declared.state.Stage.TheVariants as in_stage
use Rattle.jobs.specs.Jobs.{pair_bytes, coefficients_in}
use Rattle.jobs.specs.States.{room, index_check, body_checks, whole_bytes, sum_after, adding, settled, settling, pairs_after}
use Rattle.jobs.specs.Adding.{Adding, Feedable}
use Rattle.jobs.specs.ByteLaws.{length-coefficients_in}
use Rattle.jobs.specs.AddingLaws.{k-some, share, pairs-even, coefficients-join, sum-after-join, sum-after-none, sum-total, sum-coherent}

-- whether pairs are added up at a stage
abbrev pub adds : Stage → Bool
adds in_stage.Header = false
adds in_stage.Pairs = true
adds (in_stage.Refused r) = false

-- ---- the first bad coefficient

pub bad-after : (p : ℕ) (xs ys : List ℕ) → Below p xs → first_bad p (xs ++ ys) ≡ length xs + first_bad p ys
bad-after p xs ys h =
    first-only (too_large p (xs ++ ys)) (length (xs ++ ys)) 0 (first_bad p (xs ++ ys)) (length xs + first_bad p ys) (first-is (too_large p (xs ++ ys)) (length (xs ++ ys)) 0)
    (record {
      low = omega arith;
      high = omega (arith, length-append xs ys, second.high);
      none_before = λ j a l. go j l (dec_lt j (length xs));
      holds = λ l. let e : length xs + first_bad p ys - length xs ≡ first_bad p ys = omega arith in rw (coefficient-after xs ys (length xs + first_bad p ys) (omega arith), e) (second.holds (omega (arith, length-append xs ys)));
    })
  where
    second : First (too_large p ys) (length ys) 0 (first_bad p ys)
    second = first-is (too_large p ys) (length ys) 0

    go : (j : ℕ) → j < length xs + first_bad p ys → Dec (j < length xs) → too_large p (xs ++ ys) j ≡ false
    go j l (yes lx) = rw (get_or-append xs ys 0 j lx) (lt-leb p (coefficient xs j) (h j))
    go j l (no lx) = rw (coefficient-after xs ys j (omega arith)) (second.none_before (j - length xs) (omega arith) (omega arith))

pub bad-first : (p : ℕ) (xs ys : List ℕ) → length xs ≤ length ys → ((j : ℕ) → j < length xs → coefficient ys j ≡ coefficient xs j) → first_bad p xs < length xs → first_bad p ys ≡ first_bad p xs
bad-first p xs ys more same bad =
    first-only (too_large p ys) (length ys) 0 (first_bad p ys) (first_bad p xs) (first-is (too_large p ys) (length ys) 0)
    (record {
      low = omega arith;
      high = omega arith;
      none_before = λ j a l. rw (same j (omega arith)) (found.none_before j a l);
      holds = λ l. rw (same (first_bad p xs) bad) (found.holds (omega arith));
    })
  where
    found : First (too_large p xs) (length xs) 0 (first_bad p xs)
    found = first-is (too_large p xs) (length xs) 0

-- m pairs fewer are to come, b bytes each
room-less : (b m t v pairs : ℕ) → v ≡ t + m → t + m ≤ pairs → b * (pairs - t) ≡ m * b + b * (pairs - v)
room-less b m t v pairs e h =
    let more : pairs - t ≡ m + (pairs - v) = omega arith in
    rw more (mul-add b m (pairs - v) ∙ ap (λ (x : ℕ). x + b * (pairs - v)) (mul_comm b m))

-- an index after m pairs, c coefficients each
index-more : (c m t v l f : ℕ) → l ≡ m * c → v ≡ t + m → c * t + (l + f) ≡ c * v + f
index-more c m t v l f hl hv = rw (hl, hv) (omega (arith, mul-add c t m, mul_comm m c))

ltb-add : (c x y : ℕ) → ltb (c + x) (c + y) ≡ ltb x y
ltb-add c x y = go (dec_lt x y)
  where
    go : Dec (x < y) → ltb (c + x) (c + y) ≡ ltb x y
    go (yes l) = lt-ltb (c + x) (c + y) (omega arith) ∙ sym (lt-ltb x y l)
    go (no l) = le-ltb (c + x) (c + y) (omega arith) ∙ sym (le-ltb x y (omega arith))

-- ---- bytes that fit

pub record Fits (s : Setting) (u : Sum) (pairs : ℕ) (bs : List ℕ) : Type 0 where
  pub few : length bs ≤ room s u pairs
  pub below : Below s.p (coefficients_in bs)

module _ (s : Setting) (u : Sum) (pairs : ℕ) (a : Adding s u pairs) where
  p-some : 0 < s.p
  p-some = omega (arith, (bounds s a.coherent.accepted).range.choice.p_low)

  pub checks-fit : (bs : List ℕ) → body_checks s u pairs bs ≡ fine → Fits s u pairs bs
  unfolding body_checks
  checks-fit bs e =
      let cs : List ℕ = coefficients_in (take (room s u pairs) bs) in
      let both = passed (ltb (first_bad s.p cs) (length cs)) 8 (2 * s.k * u.total + first_bad s.p cs) _ tt e in
      let few : length bs ≤ room s u pairs = ltb-false (room s u pairs) (length bs) (passed-last (ltb (room s u pairs) (length bs)) 17 0 both.1) in
      let good : coefficient_check s.p cs ≡ fine = rw both.0 in
      let all : take (room s u pairs) bs ≡ bs = take_all (room s u pairs) bs few in
      record { few = few; below = rw all at ((coefficient-check s.p cs p-some).0 good) }

  -- ---- whole pairs, and then others

  module _ (m : ℕ) (xs ys : List ℕ) (h : length xs ≡ m * pair_bytes s.k) (fits : u.total + m ≤ pairs) (below : Below s.p (coefficients_in xs)) where
    abbrev v : Sum
    v = sum_after s u xs

    total : v.total ≡ u.total + m
    total = sum-total s u (k-some s u a.coherent) xs ∙ rw (h, mul-div_cancel m {n = pair_bytes s.k} (omega (arith, (k-some s u a.coherent))))

    rooms : room s u pairs ≡ length xs + room s v pairs
    rooms = rw h (room-less (pair_bytes s.k) m u.total v.total pairs total fits)

    even : length xs ≡ m * (2 * s.k) * 2
    even = pairs-even m s.k (length xs) h

    size : length (coefficients_in xs) ≡ m * (2 * s.k)
    size = length-coefficients_in xs ∙ rw even (mul-div_cancel (m * (2 * s.k)) (omega arith))

    abbrev ds : List ℕ
    ds = coefficients_in (take (room s v pairs) ys)

    parts : coefficients_in (take (room s u pairs) (xs ++ ys)) ≡ coefficients_in xs ++ ds
    parts = rw (rooms, take-append-add xs ys (room s v pairs)) (coefficients-join (m * (2 * s.k)) xs (take (room s v pairs) ys) even)

    index : 2 * s.k * u.total + (length (coefficients_in xs) + first_bad s.p ds) ≡ 2 * s.k * v.total + first_bad s.p ds
    index = index-more (2 * s.k) m u.total v.total (length (coefficients_in xs)) (first_bad s.p ds) size total

    checks-step : body_checks s u pairs (xs ++ ys) ≡ body_checks s v pairs ys
    unfolding body_checks
    checks-step =
        rw (parts, bad-after s.p (coefficients_in xs) ds below, length-append (coefficients_in xs) ds, ltb-add (length (coefficients_in xs)) (first_bad s.p ds) (length ds), index, rooms, length-append xs ys, ltb-add (length xs) (room s v pairs) (length ys))

    whole : whole_bytes s.k (length (xs ++ ys)) ≡ length xs + whole_bytes s.k (length ys)
    whole =
        rw (length-append xs ys, h, share (pair_bytes s.k) m (length ys) (omega (arith, (k-some s u a.coherent)))) (add-mul m (length ys / pair_bytes s.k) (pair_bytes s.k))

    pub pairs-step : pairs_after s u pairs (xs ++ ys) ≡ pairs_after s v pairs ys
    unfolding pairs_after
    pairs-step = rw (checks-step, sum-after-join s u (k-some s u a.coherent) m xs ys h, whole, drop-append-add xs ys (whole_bytes s.k (length ys)))

  -- ---- bytes that fit, and then others

  module _ (bs : List ℕ) (f : Fits s u pairs bs) where
    abbrev m2 : ℕ
    m2 = length bs / pair_bytes s.k

    abbrev front : List ℕ
    front = take (whole_bytes s.k (length bs)) bs

    abbrev back : List ℕ
    back = drop (whole_bytes s.k (length bs)) bs

    front-size : length front ≡ m2 * pair_bytes s.k
    front-size = length-take-le (whole_bytes s.k (length bs)) bs (omega (arith, div-add-mod' (length bs) (pair_bytes s.k)))

    both-parts : front ++ back ≡ bs
    both-parts = take-append-drop (whole_bytes s.k (length bs)) bs

    some-rest : length bs % pair_bytes s.k < pair_bytes s.k
    some-rest = mod-lt (length bs) (omega (arith, (k-some s u a.coherent)))

    pub back-short : length back < pair_bytes s.k
    back-short = rw (length-drop (whole_bytes s.k (length bs)) bs) (omega (arith, div-add-mod' (length bs) (pair_bytes s.k), some-rest))

    even-front : length front ≡ m2 * (2 * s.k) * 2
    even-front = pairs-even m2 s.k (length front) front-size

    -- of joined coefficients each part is below p
    parts_below : Below s.p (coefficients_in front) × Below s.p (coefficients_in back)
    parts_below = below_parts s.p (coefficients_in front) (coefficients_in back) (rw (← coefficients-join (m2 * (2 * s.k)) front back even-front, both-parts) f.below)

    pub pairs-left : u.total + m2 ≤ pairs
    pairs-left =
        let few : m2 * pair_bytes s.k ≤ (pairs - u.total) * pair_bytes s.k = omega (arith, div-add-mod' (length bs) (pair_bytes s.k), f.few, mul_comm (pair_bytes s.k) (pairs - u.total)) in
        omega (arith, fewer few, a.added)
      where
        fewer : m2 * pair_bytes s.k ≤ (pairs - u.total) * pair_bytes s.k → m2 ≤ pairs - u.total
        fewer l = le_of_mul-le-mul_right l (omega (arith, (k-some s u a.coherent)))

    pub front-sum : sum_after s u front ≡ sum_after s u bs
    front-sum = sym (ap (sum_after s u) (sym both-parts) ∙ sum-after-join s u (k-some s u a.coherent) m2 front back front-size ∙ sum-after-none s (sum_after s u front) (k-some s u a.coherent) back back-short)

    pub front-feedable : Feedable s u front
    front-feedable = record {
      coherent = a.coherent;
      whole = rw front-size (mul-mod_left m2 (pair_bytes s.k));
      room = rw (front-size, mul-div_cancel m2 {n = pair_bytes s.k} (omega (arith, (k-some s u a.coherent)))) (omega (arith, pairs-left, a.most));
      below = parts_below.0;
    }

    pub held_fits : Fits s (sum_after s u bs) pairs back
    held_fits =
        let sizes : length front + length back ≡ length bs = sym (length-append front back) ∙ ap length both-parts in
        let rest : room s u pairs ≡ length front + room s (sum_after s u bs) pairs = rw (← front-sum) (rooms m2 front back front-size pairs-left parts_below.0) in
        record { few = omega (arith, f.few); below = parts_below.1 }

    pub adding-next : Adding s (sum_after s u bs) pairs
    adding-next = record {
      coherent = sum-coherent s u (k-some s u a.coherent) bs a.coherent f.below (omega (arith, pairs-left, a.most));
      added = rw (sum-total s u (k-some s u a.coherent) bs) pairs-left;
      most = a.most;
    }

    pub pairs-on : (ys : List ℕ) → pairs_after s u pairs (bs ++ ys) ≡ pairs_after s (sum_after s u bs) pairs (back ++ ys)
    pairs-on ys =
        rw (← front-sum)
        (ap (λ (l : List ℕ). pairs_after s u pairs (l ++ ys)) (sym both-parts)
        ∙ ap (pairs_after s u pairs) (append_assoc front back ys)
        ∙ pairs-step m2 front (back ++ ys) front-size pairs-left parts_below.0)

  -- ---- after a refusal

  pub checks-stay : (bs ys : List ℕ) (number place : ℕ) → body_checks s u pairs bs ≡ refused number place → body_checks s u pairs (bs ++ ys) ≡ refused number place
  unfolding body_checks
  checks-stay bs ys number place = go (dec_lt (first_bad s.p cs) (length cs))
    where
      r : ℕ
      r = room s u pairs

      cs : List ℕ
      cs = coefficients_in (take r bs)

      es : List ℕ
      es = coefficients_in (take r (bs ++ ys))

      sizes : length (take r bs) ≤ length (take r (bs ++ ys))
      sizes = omega (arith, length-take r bs, length-take r (bs ++ ys), length-append bs ys)

      grows : length cs ≤ length es
      grows = omega (arith, length-coefficients_in (take r bs), length-coefficients_in (take r (bs ++ ys)), sizes)

      byte : (i : ℕ) → i < length (take r bs) → coefficient (take r (bs ++ ys)) i ≡ coefficient (take r bs) i
      byte i l =
          let inside : i < r = omega (arith, length-take r bs) in
          get_or-take r (bs ++ ys) i 0 inside ∙ get_or-append bs ys 0 i (omega (arith, length-take r bs)) ∙ sym (get_or-take r bs i 0 inside)

      agrees : (j : ℕ) → j < length cs → coefficient es j ≡ coefficient cs j
      agrees j l =
          let here : j < length (take r bs) / 2 = omega (arith, length-coefficients_in (take r bs)) in
          upto-at (length (take r (bs ++ ys)) / 2) (λ i. number_at (take r (bs ++ ys)) (2 * i) 2) j (omega (arith, sizes))
          ∙ number_at-same (take r (bs ++ ys)) (take r bs) (2 * j) (2 * j) 2 (λ i li. byte (2 * j + i) (omega arith))
          ∙ sym (upto-at (length (take r bs) / 2) (λ i. number_at (take r bs) (2 * i) 2) j here)

      extra : (first_bad s.p cs < length cs → ⊥) → (index_check s.p (2 * s.k * u.total) cs and_then refuse (ltb r (length bs)) 17 0) ≡ refused number place → Dec (r < length bs)
          → (index_check s.p (2 * s.k * u.total) es and_then refuse (ltb r (length (bs ++ ys))) 17 0) ≡ refused number place
      extra l e (yes lr) =
          rw (take-append-le r bs ys (omega arith), length-append bs ys, lt-ltb r (length bs + length ys) (omega arith)) (rw (lt-ltb r (length bs) lr) at e)
      extra l e (no lr) = absurd (never number place tt (sym (rw (le-ltb (first_bad s.p cs) (length cs) (omega arith), le-ltb r (length bs) (omega arith)) at e)))

      go : Dec (first_bad s.p cs < length cs) → (index_check s.p (2 * s.k * u.total) cs and_then refuse (ltb r (length bs)) 17 0) ≡ refused number place
          → (index_check s.p (2 * s.k * u.total) es and_then refuse (ltb r (length (bs ++ ys))) 17 0) ≡ refused number place
      go (yes l) e =
          let same : first_bad s.p es ≡ first_bad s.p cs = bad-first s.p cs es (grows) (agrees) l in
          rw (same, lt-ltb (first_bad s.p cs) (length es) (omega (arith, grows))) (rw (lt-ltb (first_bad s.p cs) (length cs) l) at e)
      go (no l) e = extra l e (dec_lt r (length bs))

  -- ---- a whole pair, and then others

  module _ (bs ys : List ℕ) (size : length bs ≡ pair_bytes s.k) (next : State) (is : next ≡ pairs_after s u pairs bs) where
    none-back : Fits s u pairs bs → drop (whole_bytes s.k (length bs)) bs ≡ []
    none-back f =
        let b-some : 0 < pair_bytes s.k = omega (arith, (k-some s u a.coherent)) in
        let all : whole_bytes s.k (length bs) ≡ length bs = rw size (ap (λ (n : ℕ). n * pair_bytes s.k) (div_self b-some) ∙ one-mul (pair_bytes s.k)) in
        rw all (drop-length bs)

    abbrev Goes : State → Type 0
    Goes st = Adding st.running.setting st.running.sum st.pairs × (pairs_after st.running.setting st.running.sum st.pairs ys ≡ pairs_after s u pairs (bs ++ ys))

    -- what came is the record after the pair, or a refusal
    pub came-adding : next.stage ≡ in_stage.Pairs → Goes next
    unfolding pairs_after
    came-adding st = go (body_checks s u pairs bs) refl
      where
        go : (v : Verdict) → body_checks s u pairs bs ≡ v → Goes next
        go (answered x) e =
            let f : Fits s u pairs bs = checks-fit bs e in
            let got : next ≡ adding s (sum_after s u bs) pairs [] = is ∙ rw (e, none-back f) in
            rw got (adding-next bs f, sym (pairs-on bs f ys ∙ rw (none-back f)))
        go (refused number place) e = let got : next ≡ settled number place = is ∙ rw e in absurd (true≢false (sym (ap adds st) ∙ ap (λ (z : State). adds z.stage) got))

    pub came-other : adds next.stage ≡ false → next ≡ pairs_after s u pairs (bs ++ ys)
    unfolding pairs_after
    came-other st = go (body_checks s u pairs bs) refl
      where
        go : (v : Verdict) → body_checks s u pairs bs ≡ v → next ≡ settling (body_checks s u pairs (bs ++ ys)) (adding s (sum_after s u (bs ++ ys)) pairs (drop (whole_bytes s.k (length (bs ++ ys))) (bs ++ ys)))
        go (answered x) e = let got : next ≡ adding s (sum_after s u bs) pairs (drop (whole_bytes s.k (length bs)) bs) = is ∙ rw e in absurd (true≢false (sym (ap (λ (z : State). adds z.stage) got) ∙ st))
        go (refused number place) e = is ∙ rw (e, checks-stay bs ys number place e)
