-- Laws of feeding bytes to the running record, a block at a time. Assumes nothing; it names feed's promise.
--     parting                 a block's pairs are there, and there is room for them
--     feeding, fed-pairs      taken apart they are lists that feed takes, and the pairs that they hold are those in the bytes
--     fed-block               so feed refuses nothing, and adds up what is in the bytes
--     BytesFed                the bytes before place i are fed, whole pairs
--     bytes-fed-none, fed-block-fits, bytes-fed-more, some_more, bytes-fed-all
--                             a loop that feeds them: at its start; what is next is a block; after it; there is more of it; at its end
--     block_bytes, block-bytes-most, some_block
--                             the most bytes of a block: they are not none
use Rattle.std.specs.Prelude.{ℕ, suc, ◌+◌, ◌-◌, ◌*◌, ◌/◌, ◌%◌, ◌≤◌, ◌<◌, min, ◌≡◌, List, [], ◌++◌, length, take, drop}
use Rattle.std.proofs.Common.{sym, ap, ◌∙◌, add-mul, le_of_mul-le-mul_right, div-mul-le_self, le_trans, mul-pos, mul_comm, mul_assoc, suc-mul, mul-le-mul_right, mul-div_cancel, mod-lt, div-add-mod', div-lt_iff_lt-mul, arith, length-drop, take-append-drop, get_or-take, take_all, length-take-le}
use Rattle.std.proofs.Math.Nat.{zero-mod, mul-mod_left}
use Rattle.std.proofs.Math.Decide.{dec_lt}
use Rattle.std.proofs.Math.Seq.{take-append-add}
use Rattle.polynomials.specs.IndexLaws.{upto-same}
use Rattle.polynomials.specs.Lists.{coefficient, Below}
use Rattle.polynomials.specs.ListLaws.{coefficient-past, below_parts}
use Rattle.polynomials.specs.Blocks.{block}
use Rattle.polynomials.specs.PairLaws.{pairs-same}
use Rattle.packed.specs.Taken.{taken, taken-at, taken-length}
use Rattle.settings.specs.Bounds.{bounds}
use Rattle.packed.specs.Running.{record_of, fed_pairs, Feeds}
use Rattle.packed.specs.FedPairs.{PairsToFeed}
use Rattle.packed.specs.RunningChecks.{pairs-pass, feed-fine}
use Rattle.settings.specs.declared.setting.Setting.{Setting}
use Rattle.packed.specs.declared.running.Sum.{Sum}
use Rattle.packed.specs.declared.running.Record.{Record}
use Rattle.packed.specs.declared.running.Fed.{Fed}
use Rattle.jobs.specs.Jobs.{pair_bytes, coefficients_in, pairs_in}
use Rattle.jobs.specs.States.{sum_after}
use Rattle.jobs.specs.Apart.{block_size, Parting, TakenApart}
use Rattle.jobs.specs.Adding.{Feedable, Block}
use Rattle.jobs.specs.ByteLaws.{length-coefficients_in}
use Rattle.jobs.specs.AddingLaws.{k-some, k_few, pairs-even, coefficients-join, sum-after-join, sum-after-none, sum-total, sum-coherent}

-- a place inside a block inside all of them
inside : (k m r j : ℕ) → r < m → j < k → r * k + j < m * k
inside k m r j hr hj = omega (arith, mul-le-mul_right {m = suc r} {n = m} k hr, suc-mul r k)

module _ (s : Setting) (u : Sum) (bs : List ℕ) (b : Block s u bs) where
  abbrev pub pairs : ℕ
  pairs = length bs / pair_bytes s.k

  size : length bs ≡ pairs * (2 * s.k) * 2
  size = pairs-even pairs s.k (length bs) (omega (arith, div-add-mod' (length bs) (pair_bytes s.k), b.feedable.whole))

  half : length bs / 2 ≡ pairs * (2 * s.k)
  half = ap (λ (n : ℕ). n / 2) size ∙ mul-div_cancel (pairs * (2 * s.k)) (omega arith)

  pub parting : Parting s.k pairs bs
  parting = record {
    k_low = k-some s u b.feedable.coherent;
    room = b.small;
    there = omega (arith, half, mul_assoc pairs 2 s.k, mul_comm pairs 2, ap (λ (n : ℕ). n * s.k) (mul_comm pairs 2));
  }

  module _ (xs ys : List ℕ) (hx : length xs ≡ block_size) (hy : length ys ≡ block_size) (apart : TakenApart s.k pairs (coefficients_in bs) xs ys) where
    abbrev left : List ℕ
    left = take (pairs * s.k) xs

    abbrev right : List ℕ
    right = take (pairs * s.k) ys

    cut : (zs : List ℕ) → length zs ≡ block_size → length (take (pairs * s.k) zs) ≡ pairs * s.k
    cut zs h = length-take-le (pairs * s.k) zs (rw h b.small)

    -- of one side: block r is a block of the coefficients, and every coefficient is one of them
    module _ (zs : List ℕ) (h : length zs ≡ block_size) (from : ℕ → ℕ) (put : (r j : ℕ) → r < pairs → j < s.k → coefficient zs (r * s.k + j) ≡ coefficient (coefficients_in bs) (from r * s.k + j)) where
      at : (r j : ℕ) → r < pairs → j < s.k → coefficient (take (pairs * s.k) zs) (r * s.k + j) ≡ coefficient (coefficients_in bs) (from r * s.k + j)
      at r j hr hj = get_or-take (pairs * s.k) zs (r * s.k + j) 0 (inside s.k pairs r j hr hj) ∙ put r j hr hj

      same_block : (r : ℕ) → r < pairs → block s.k (taken s.p (take (pairs * s.k) zs)) r ≡ block s.k (taken s.p (coefficients_in bs)) (from r)
      same_block r hr =
          upto-same s.k (λ j. coefficient (taken s.p (take (pairs * s.k) zs)) (r * s.k + j)) (λ j. coefficient (taken s.p (coefficients_in bs)) (from r * s.k + j))
          (λ j hj. rw (taken-at s.p (take (pairs * s.k) zs) (r * s.k + j), taken-at s.p (coefficients_in bs) (from r * s.k + j), at r j hr hj))

      side-below : Below s.p (take (pairs * s.k) zs)
      side-below j = go (dec_lt j (pairs * s.k))
        where
          place : j / s.k * s.k + j % s.k ≡ j
          place = div-add-mod' j s.k

          go : Dec (j < pairs * s.k) → coefficient (take (pairs * s.k) zs) j < s.p
          go (yes l) =
              let hr : j / s.k < pairs = (div-lt_iff_lt-mul (k-some s u b.feedable.coherent)).1 l in
              let hj : j % s.k < s.k = mod-lt j (k-some s u b.feedable.coherent) in
              let here : coefficient (take (pairs * s.k) zs) j ≡ coefficient (coefficients_in bs) (from (j / s.k) * s.k + j % s.k) = ap (coefficient (take (pairs * s.k) zs)) (sym place) ∙ at (j / s.k) (j % s.k) hr hj in
              rw here (b.feedable.below (from (j / s.k) * s.k + j % s.k))
          go (no l) = rw (coefficient-past (take (pairs * s.k) zs) j (rw (cut zs h) (omega arith))) (omega (arith, (bounds s b.feedable.coherent.accepted).range.choice.p_low))

    many : (zs : List ℕ) → length zs ≡ block_size → length (take (pairs * s.k) zs) / s.k ≡ pairs
    many zs h = rw (cut zs h) (mul-div_cancel pairs (k-some s u b.feedable.coherent))

    pub feeding : PairsToFeed s u left right
    feeding = record {
      coherent = b.feedable.coherent;
      same_size = cut xs hx ∙ sym (cut ys hy);
      whole = rw (cut xs hx) (mul-mod_left pairs s.k);
      room = rw (many xs hx) b.feedable.room;
      left_below = side-below xs hx (λ r. 2 * r) apart.left;
      right_below = side-below ys hy (λ r. 2 * r + 1) apart.right;
    }

    pub fed-pairs : fed_pairs s left right ≡ pairs_in s.k (taken s.p (coefficients_in bs))
    fed-pairs =
        let count : length (taken s.p left) / s.k ≡ pairs = rw (taken-length s.p left) (many xs hx) in
        let all : length (taken s.p (coefficients_in bs)) / (2 * s.k) ≡ pairs = rw (taken-length s.p (coefficients_in bs), length-coefficients_in bs, half) (mul-div_cancel pairs (omega (arith, (k-some s u b.feedable.coherent)))) in
        rw (count, all)
        (pairs-same pairs (block s.k (taken s.p left)) (λ i. block s.k (taken s.p (coefficients_in bs)) (2 * i)) (block s.k (taken s.p right)) (λ i. block s.k (taken s.p (coefficients_in bs)) (2 * i + 1))
        (same_block xs hx (λ r. 2 * r) apart.left)
        (same_block ys hy (λ r. 2 * r + 1) apart.right))

    pub fed-block : (f : Fed) → Feeds (record_of s u) left right f → f.running ≡ record_of s (sum_after s u bs)
    unfolding sum_after
    fed-block f promise = rw (feed-fine (record_of s u) left right (pairs-pass (record_of s u) left right feeding), fed-pairs) at promise.1

-- ---- one block after the other

pub record BytesFed (s : Setting) (u : Sum) (bs : List ℕ) (fed : Record) (i : ℕ) : Type 0 where
  pub most : i ≤ length bs
  pub whole : i % pair_bytes s.k ≡ 0
  pub here : fed ≡ record_of s (sum_after s u (take i bs))

take_more : (i d : ℕ) (bs : List ℕ) → i ≤ length bs → take (i + d) bs ≡ take i bs ++ take d (drop i bs)
take_more i d bs h =
    ap (take (i + d)) (sym (take-append-drop i bs))
    ∙ (rw (length-take-le i bs h) at (take-append-add (take i bs) (drop i bs) d))

-- of n blocks of b bytes, a are through: at most c of the rest are next
record Chunk (b c a n d : ℕ) : Type 0 where
  count : ℕ
  is : d ≡ count * b
  few : count ≤ c
  room : a + count ≤ n

chunk_of : (b c a n d : ℕ) → 0 < b → a * b ≤ n * b → d ≡ min (c * b) (n * b - a * b) → Chunk b c a n d
chunk_of b c a n d hb h e = go (dec_lt (c * b) (n * b - a * b))
  where
    less : (x y : ℕ) → x * b ≤ y * b → x ≤ y
    less x y l = le_of_mul-le-mul_right l hb

    go : Dec (c * b < n * b - a * b) → Chunk b c a n d
    go (yes l) = record { count = c; is = omega arith; few = omega arith; room = less (a + c) n (omega (arith, add-mul a c b)) }
    go (no l) =
        let some : a ≤ n = less a n h in
        let sum : a + (n - a) ≡ n = omega arith in
        let rest : a * b + (n - a) * b ≡ n * b = sym (add-mul a (n - a) b) ∙ ap (λ (x : ℕ). x * b) sum in
        record { count = n - a; is = omega arith; few = less (n - a) c (omega arith); room = omega arith }

-- the most bytes that are taken apart at a time
abbrev pub block_bytes : ℕ → ℕ
block_bytes k = block_size / k * pair_bytes k

pub block-bytes-most : (k : ℕ) → block_bytes k ≤ 4 * block_size
block-bytes-most k = omega (arith, div-mul-le_self block_size k, sym (mul_assoc (block_size / k) 4 k), ap (λ (x : ℕ). x * k) (mul_comm (block_size / k) 4), mul_assoc 4 (block_size / k) k)

module _ (s : Setting) (u : Sum) (bs : List ℕ) (f : Feedable s u bs) where
  abbrev b : ℕ
  b = pair_bytes s.k

  b-some : 0 < b
  b-some = omega (arith, (k-some s u f.coherent))

  pub some_block : 0 < block_bytes s.k
  some_block = mul-pos (go (dec_lt (block_size / s.k) 1)) b-some
    where
      go : Dec (block_size / s.k < 1) → 0 < block_size / s.k
      go (yes l) = let few : block_size < 1 * s.k = (div-lt_iff_lt-mul (k-some s u f.coherent)).0 l in absurd (omega (arith, (k_few s u f.coherent)))
      go (no l) = omega arith

  pub bytes-fed-none : BytesFed s u bs (record_of s u) 0
  bytes-fed-none = record { most = omega arith; whole = zero-mod b; here = ap (record_of s) (sym (sum-after-none s u (k-some s u f.coherent) [] (omega (arith, (k-some s u f.coherent))))) }

  pub bytes-fed-all : (fed : Record) (i : ℕ) → BytesFed s u bs fed i → length bs ≤ i → fed ≡ record_of s (sum_after s u bs)
  bytes-fed-all fed i h l = h.here ∙ ap (λ (l : List ℕ). record_of s (sum_after s u l)) (take_all i bs l)

  module _ (fed : Record) (i d : ℕ) (h : BytesFed s u bs fed i) (size : d ≡ min (block_bytes s.k) (length bs - i)) where
    abbrev chunk : List ℕ
    chunk = take d (drop i bs)

    abbrev so : Sum
    so = sum_after s u (take i bs)

    -- the blocks of a pair's bytes that are through, and all of them
    through : i ≡ i / b * b
    through = omega (arith, div-add-mod' i b, h.whole)

    all_of : length bs ≡ length bs / b * b
    all_of = omega (arith, div-add-mod' (length bs) b, f.whole)

    now : Chunk b (block_size / s.k) (i / b) (length bs / b) d
    now = chunk_of b (block_size / s.k) (i / b) (length bs / b) d b-some (omega (arith, through, all_of, h.most)) (size ∙ ap (min (block_bytes s.k)) (omega (arith, through, all_of)))

    past : i + d ≡ (i / b + now.count) * b
    past = omega (arith, through, now.is, add-mul (i / b) now.count b)

    inside-all : i + d ≤ length bs
    inside-all = omega (arith, size, h.most)

    chunk-size : length chunk ≡ d
    chunk-size = length-take-le d (drop i bs) (rw (length-drop i bs) (omega (arith, inside-all)))

    chunk_count : length chunk / b ≡ now.count
    chunk_count = ap (λ (n : ℕ). n / b) (chunk-size ∙ now.is) ∙ mul-div_cancel now.count b-some

    next : take (i + d) bs ≡ take i bs ++ chunk
    next = take_more i d bs h.most

    begun : length (take i bs) ≡ i / b * b
    begun = length-take-le i bs h.most ∙ through

    parts_below : Below s.p (coefficients_in (take i bs)) × Below s.p (coefficients_in chunk)
    parts_below =
        let m : ℕ = i / b + now.count in
        let split : coefficients_in bs ≡ coefficients_in (take (i + d) bs) ++ coefficients_in (drop (i + d) bs) = ap coefficients_in (sym (take-append-drop (i + d) bs)) ∙ coefficients-join (m * (2 * s.k)) (take (i + d) bs) (drop (i + d) bs) (pairs-even m s.k (length (take (i + d) bs)) (length-take-le (i + d) bs inside-all ∙ past)) in
        let first : Below s.p (coefficients_in (take (i + d) bs)) = (below_parts s.p (coefficients_in (take (i + d) bs)) (coefficients_in (drop (i + d) bs)) (rw split at f.below)).0 in
        let parted : coefficients_in (take (i + d) bs) ≡ coefficients_in (take i bs) ++ coefficients_in chunk = ap coefficients_in next ∙ coefficients-join (i / b * (2 * s.k)) (take i bs) chunk (pairs-even (i / b) s.k (length (take i bs)) begun) in
        below_parts s.p (coefficients_in (take i bs)) (coefficients_in chunk) (rw parted at first)

    pub fed-block-fits : Block fed.setting fed.sum chunk
    fed-block-fits = rw h.here (record {
      feedable = record {
        coherent = sum-coherent s u (k-some s u f.coherent) (take i bs) f.coherent parts_below.0 (rw (length-take-le i bs h.most) (omega (arith, now.room, f.room)));
        whole = rw (chunk-size, now.is) (mul-mod_left now.count b);
        room = rw (sum-total s u (k-some s u f.coherent) (take i bs), length-take-le i bs h.most, chunk_count) (omega (arith, now.room, f.room));
        below = parts_below.1;
      };
      small = rw chunk_count (le_trans (mul-le-mul_right {m = now.count} {n = block_size / s.k} s.k now.few) (div-mul-le_self block_size s.k));
    })

    pub bytes-fed-more : (r : Record) → r ≡ record_of fed.setting (sum_after fed.setting fed.sum chunk) → BytesFed s u bs r (i + d)
    bytes-fed-more r e = record {
      most = inside-all;
      whole = rw past (mul-mod_left (i / b + now.count) b);
      here = e ∙ rw (h.here, next) (ap (record_of s) (sym (sum-after-join s u (k-some s u f.coherent) (i / b) (take i bs) chunk begun)));
    }

    pub some_more : i < length bs → 0 < d
    some_more l = omega (arith, size, some_block)
