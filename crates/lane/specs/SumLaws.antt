-- The sum of products in doubles. Assumes nothing.
--     PacksExactly p q xs             the word of the list in the base q is below 2^53
--     packed_none                     packing from the highest place down starts with +0
--     pack-times, pack-plus, pack-next
--                                     one place below: what is asked on the way, and that it is the word from there on
--     Listed s xs ys                  two flat lists of at most n pairs below p, for a setting that 16 takes; Summing l xs ys, and a lane record
--     listed, summing                 so they are where nothing is refused
--     listed-operands, listed-few     their pairs are operands, and at most n
--     word_fits, sum-small            the sum of all products is a word, and so below 2^52
--     sum_so_far s xs ys r              the products of the first r pairs, added up
--     pair_inside, right-inside       the coefficients of a pair stand in the lists
--     left-packing, right-packing     they may be packed
--     pair-times, pair-plus, pair-next
--                                     one pair more: what is asked on the way, and that it is the sum so far
--     sum-all                         all pairs
use Rattle.std.specs.Prelude.{◌≡◌, ℕ, suc, ◌+◌, ◌-◌, ◌*◌, ◌/◌, ◌%◌, ◌^◌, ◌<◌, ◌≤◌, List, length, drop, from_bits, refl, Float}
use Rattle.std.proofs.Common.{sym, ap, ◌∙◌, lt_of_le_of_lt, suc-mul, div-mul-le_self, mul-le-mul_right, add-one, arith, drop_of_length-le, pow_pos, ltb-false}
use Rattle.std.specs.Float.{binary64}
use Rattle.polynomials.specs.Indices.{sum_to}
use Rattle.polynomials.specs.IndexLaws.{sum-fewer}
use Rattle.polynomials.specs.Lists.{coefficient, part, Below, Pairs, sum_of_products}
use Rattle.polynomials.specs.Places.{packed, sum_of_words}
use Rattle.polynomials.specs.PlaceLaws.{packed-sum_of_products}
use Rattle.polynomials.specs.Blocks.{block, block_at, pairs_upto}
use Rattle.polynomials.specs.BlockLaws.{block-operand, words-of-pairs}
use Rattle.doubles.specs.Whole.{exact_below, whole_part, Held, Exact, quotient_below}
use Rattle.doubles.specs.Exactly.{held, held_number, held-exact, zero_is}
use Rattle.settings.specs.Answers.{fine}
use Rattle.settings.specs.AnswerLaws.{passed}
use Rattle.settings.specs.Settings.{base, span_of}
use Rattle.settings.specs.Coefficients.{coefficients-check}
use Rattle.packed.specs.Taken.{taken, taken_one, taken-length, taken-low, taken-block, taken-turn, taken-most}
use Rattle.settings.specs.Bounds.{Bounds, batch-within}
use Rattle.packed.specs.Running.{fed_pairs, pairs_cause}
use Rattle.packed.specs.RunningChecks.{pairs-shape}
use Rattle.packed.specs.FedPairs.{fed-operands, fed-count}
use Rattle.words.specs.WordLaws.{within-span}
use Rattle.settings.specs.declared.setting.Setting.{Setting}
use Rattle.lane.specs.Lanes.{held_cause, lane_full_cause, lane_sum_checks, sum_word}
use Rattle.lane.specs.LaneLaws.{LaneBounds, Doubles, ProperLane, lane-proper, held-within, held-base, word_small}
use Rattle.lane.specs.ExactLaws.{plus-asks, plus-gives, times-asks, times-gives}
use Rattle.lane.specs.declared.Lane.{Lane}

-- ---- packing

pub record PacksExactly (p : ℕ) (q : Float) (xs : List ℕ) : Type 0 where
  pub p_low : 0 < p
  pub base_exact : Exact q
  pub base_low : 0 < whole_part q
  pub room : packed (whole_part q) (taken p xs) < exact_below

pub packed_none : (p q : ℕ) (xs : List ℕ) → Held (from_bits binary64 0) (packed q (drop (length xs) (taken p xs)))
packed_none p q xs = rw (zero_is, drop_of_length-le (taken p xs) {i = length xs} (rw taken-length (omega arith))) (held 0 (omega arith))

module _ {p : ℕ} {q : Float} {xs : List ℕ} (pre : PacksExactly p q xs) {w : Float} {i : ℕ} (more : 0 < i) (top : i ≤ length xs) (h : Held w (packed (whole_part q) (drop i (taken p xs)))) where
  -- the word from one place below, which is at most the whole
  next : packed (whole_part q) (drop i (taken p xs)) * whole_part q + taken_one p (coefficient xs (i - 1)) ≡ packed (whole_part q) (drop (i - 1) (taken p xs))
  next = taken-turn (whole_part q) p xs i _ more top refl

  below : packed (whole_part q) (drop i (taken p xs)) * whole_part q + taken_one p (coefficient xs (i - 1)) < exact_below
  below = lt_of_le_of_lt (taken-most (whole_part q) p xs i _ pre.base_low more top refl) pre.room

  pub pack-times : Exact w × Exact q × (whole_part w * whole_part q < exact_below)
  pack-times = times-asks h pre.base_exact (omega (arith, below))

  module _ {v y : Float} (hv : Held v (whole_part w * whole_part q)) (hy : Held y (taken_one p (coefficient xs (i - 1)))) where
    pub pack-plus : Exact v × Exact y × (whole_part v + whole_part y < exact_below)
    pack-plus = plus-asks (times-gives h pre.base_exact hv) hy below

    pub pack-next : {r : Float} → Held r (whole_part v + whole_part y) → Held r (packed (whole_part q) (drop (i - 1) (taken p xs)))
    pack-next hr = rw next at (plus-gives (times-gives h pre.base_exact hv) hy hr)

-- ---- adding up

pub record Listed (s : Setting) (xs ys : List ℕ) : Type 0 where
  pub within : LaneBounds s
  pub same_size : length xs ≡ length ys
  pub whole : length xs % s.k ≡ 0
  pub few : length xs / s.k ≤ s.n
  pub left_below : Below s.p xs
  pub right_below : Below s.p ys

pub listed : (l : Lane) (xs ys : List ℕ) → lane_sum_checks l xs ys ≡ fine → Listed l.setting xs ys
unfolding lane_sum_checks
listed l xs ys e =
    let s = l.setting in
    let a = passed (held_cause l) 12 0 _ tt e in
    let b = passed (pairs_cause s.k (length xs) (length ys)) 9 0 _ tt a.1 in
    let c = passed (lane_full_cause s.n (length xs / s.k)) 13 0 _ tt b.1 in
    let within : LaneBounds s = held-within l a.0 in
    let shape = (pairs-shape s.k (length xs) (length ys)).0 b.0 in
    let below = (coefficients-check s.p xs ys (omega (arith, within.bounded.range.choice.p_low))).0 c.1 in
    record {
      within = within;
      same_size = shape.0;
      whole = shape.1;
      few = ltb-false s.n (length xs / s.k) c.0;
      left_below = below.0;
      right_below = below.1;
    }

pub record Summing (l : Lane) (xs ys : List ℕ) : Type 0 where
  pub proper : ProperLane l
  pub lists : Listed l.setting xs ys

pub summing : (l : Lane) (xs ys : List ℕ) → Doubles l → lane_sum_checks l xs ys ≡ fine → Summing l xs ys
unfolding lane_sum_checks
summing l xs ys ds e = record { proper = lane-proper l ds (passed (held_cause l) 12 0 _ tt e).0; lists = listed l xs ys e }

abbrev pub sum_so_far : Setting → List ℕ → List ℕ → ℕ → ℕ
sum_so_far s xs ys r = sum_to r (λ v. block_at (base s) s.k (taken s.p xs) v * block_at (base s) s.k (taken s.p ys) v)

module _ {s : Setting} {xs ys : List ℕ} (h : Listed s xs ys) where
  pub listed-operands : Pairs s.p s.k (fed_pairs s xs ys)
  listed-operands = fed-operands s xs ys h.left_below h.right_below

  pub listed-few : length (fed_pairs s xs ys) ≤ s.n
  listed-few = rw (fed-count s xs ys) h.few

  pub word_fits : sum_word s xs ys < 2 ^ span_of s
  word_fits = within-span s (sum_of_products (fed_pairs s xs ys)) h.within.bounded (batch-within s (fed_pairs s xs ys) listed-operands listed-few)

  pub sum-small : sum_word s xs ys < quotient_below
  sum-small = word_small h.within (sum_word s xs ys) word_fits

module _ {l : Lane} {xs ys : List ℕ} (pre : Summing l xs ys) where
  abbrev s : Setting
  s = l.setting

  abbrev pairs : ℕ
  pairs = length xs / s.k

  bounded : Bounds s
  bounded = pre.lists.within.bounded

  all : sum_so_far s xs ys pairs ≡ sum_word s xs ys
  all =
      sym (words-of-pairs (base s) pairs (block s.k (taken s.p xs)) (block s.k (taken s.p ys)))
      ∙ ap (λ (m : ℕ). sum_of_words (base s) (pairs_upto (m / s.k) (block s.k (taken s.p xs)) (block s.k (taken s.p ys)))) (sym (taken-length s.p xs))
      ∙ sym (packed-sum_of_products (base s) (fed_pairs s xs ys))

  pub sum-all : {x : Float} {r : ℕ} → r ≤ pairs → pairs ≤ r → Held x (sum_so_far s xs ys r) → Held x (sum_word s xs ys)
  sum-all {r = r} h g hx =
      let through : r ≡ pairs = omega arith in
      rw all at (rw through at hx)

  module _ {r : ℕ} (more : r < pairs) where
    pub pair_inside : r * s.k + s.k ≤ length xs
    pair_inside = omega (arith, mul-le-mul_right {m = suc r} {n = pairs} s.k more, suc-mul r s.k, div-mul-le_self (length xs) s.k)

    pub right-inside : r * s.k + s.k ≤ length ys
    right-inside = omega (arith, pair_inside, pre.lists.same_size)

    -- one factor of the pair
    module _ (zs : List ℕ) (inside : r * s.k + s.k ≤ length zs) (below : Below s.p zs) where
      factor : packed (whole_part l.q) (taken s.p (part (r * s.k) (r * s.k + s.k) zs)) ≡ block_at (base s) s.k (taken s.p zs) r
      factor = rw (held_number (held-base pre.proper)) (taken-block (base s) s.p s.k zs r inside)

      packing : PacksExactly s.p l.q (part (r * s.k) (r * s.k + s.k) zs)
      packing = record {
        p_low = omega (arith, bounded.range.choice.p_low);
        base_exact = held-exact (held-base pre.proper);
        base_low = rw (held_number (held-base pre.proper)) (pow_pos s.t);
        room = rw factor (omega (arith, bounded.word_fits (block s.k (taken s.p zs) r) (block-operand s.p s.k (taken s.p zs) r (taken-low s.p zs below))));
      }

    pub left-packing : PacksExactly s.p l.q (part (r * s.k) (r * s.k + s.k) xs)
    left-packing = packing xs pair_inside pre.lists.left_below

    pub right-packing : PacksExactly s.p l.q (part (r * s.k) (r * s.k + s.k) ys)
    right-packing = packing ys right-inside pre.lists.right_below

    module _ {x y : Float} (hx : Held x (packed (whole_part l.q) (taken s.p (part (r * s.k) (r * s.k + s.k) xs)))) (hy : Held y (packed (whole_part l.q) (taken s.p (part (r * s.k) (r * s.k + s.k) ys)))) where
      left : Held x (block_at (base s) s.k (taken s.p xs) r)
      left = rw (factor xs pair_inside pre.lists.left_below) at hx

      right : Held y (block_at (base s) s.k (taken s.p ys) r)
      right = rw (factor ys right-inside pre.lists.right_below) at hy

      -- the sum with this pair is at most the sum of all
      room : sum_so_far s xs ys r + block_at (base s) s.k (taken s.p xs) r * block_at (base s) s.k (taken s.p ys) r < exact_below
      room = omega (arith, sum-fewer (λ v. block_at (base s) s.k (taken s.p xs) v * block_at (base s) s.k (taken s.p ys) v) (suc r) pairs (omega arith), all, sum-small pre.lists)

      pub pair-times : Exact x × Exact y × (whole_part x * whole_part y < exact_below)
      pair-times = times-asks left right (omega (arith, room))

      module _ {v z : Float} (hv : Held v (sum_so_far s xs ys r)) (hz : Held z (whole_part x * whole_part y)) where
        pub pair-plus : Exact v × Exact z × (whole_part v + whole_part z < exact_below)
        pair-plus = plus-asks hv (times-gives left right hz) room

        pub pair-next : {u : Float} → Held u (whole_part v + whole_part z) → Held u (sum_so_far s xs ys (r + 1))
        pair-next hu =
            let more : sum_so_far s xs ys r + block_at (base s) s.k (taken s.p xs) r * block_at (base s) s.k (taken s.p ys) r ≡ sum_so_far s xs ys (r + 1) = rw (add-one r) (omega arith) in
            rw more at (plus-gives hv (times-gives left right hz) hu)
