-- The sums of a feed, a batch at a time, on plain values: for the workers of feed alone. Assumes nothing.
--     multiplying                 the pairs of an open batch can be multiplied and added up in its word
--     batch-full, batch-unfilled      the sum after them, where the batch is full and where it is not
--     so_far s u xs ys i           the sum after the first i pairs
--     FedSoFar s u xs ys v held i
--                                 that v is it, and that its open batch holds held pairs
--     so-far-none, so-far-batch, so_far_more, so-far-further, so-far-all
--                                 before the first; the next batch; after it; that it has a pair; after all of them
use Rattle.std.specs.Prelude.{ℕ, ◌+◌, ◌-◌, ◌*◌, ◌/◌, ◌%◌, ◌^◌, ◌≤◌, ◌<◌, min, ◌≡◌, List, length}
use Rattle.std.proofs.Math.Path.{refl}
use Rattle.std.proofs.Common.{sym, ap, ◌∙◌, mod-lt, div-add-mod', mul-le-mul_right, mul-le-mul, arith, eq-eqb, ne_eqb}
use Rattle.std.proofs.Math.Nat.{mod-add-mod}
use Rattle.polynomials.specs.Lists.{Below, Pair, Pairs}
use Rattle.polynomials.specs.Places.{sum_of_words}
use Rattle.polynomials.specs.Blocks.{block, block_at, pairs_upto}
use Rattle.polynomials.specs.BlockLaws.{block-operand, length_pairs, pairs-operands}
use Rattle.polynomials.specs.PairLaws.{pairs-more}
use Rattle.settings.specs.Limits.{most_coefficients, most_pairs}
use Rattle.settings.specs.Settings.{base}
use Rattle.packed.specs.Taken.{taken, taken-low, taken-length}
use Rattle.settings.specs.Bounds.{Bounds, bounds}
use Rattle.packed.specs.Running.{open_pairs, Coherent, split, after_pairs}
use Rattle.packed.specs.RunningLaws.{open-room, with_pairs, batch-after, after-join, after-total, coherent-after}
use Rattle.packed.specs.Feeding.{OpenBatch, after_batch, Multiplying}
use Rattle.packed.specs.FedPairs.{PairsToFeed, fed_sum, pairs_from, products, run-count, run-words, run-operands}
use Rattle.settings.specs.declared.setting.Setting.{Setting}
use Rattle.packed.specs.declared.running.Sum.{Sum}

-- ---- a batch

module _ {s : Setting} {u : Sum} {held : ℕ} {xs ys : List ℕ} {i m : ℕ} (pre : OpenBatch s u held xs ys i m) where
  bounded : Bounds s
  bounded = bounds s pre.coherent.accepted

  abbrev cs : List Pair
  cs = pairs_from s xs ys i m

  operands : Pairs s.p s.k cs
  operands = run-operands s xs ys i m pre.left_below pre.right_below

  count : length cs ≡ m
  count = run-count s xs ys i m

  few : open_pairs s u + length cs ≤ s.n
  few = rw count (omega (arith, pre.pairs, pre.most))

  words : sum_of_words (base s) cs ≡ products s.p s.t s.k xs ys i m
  words = run-words s xs ys i m

  word-of : (zs : List ℕ) → Below s.p zs → (r : ℕ) → block_at (2 ^ s.t) s.k (taken s.p zs) r < 2 ^ 32
  word-of zs h r = bounded.word_fits (block s.k (taken s.p zs) r) (block-operand s.p s.k (taken s.p zs) r (taken-low s.p zs h))

  pub multiplying : Multiplying s.p s.t s.k xs ys i m u.word
  multiplying = record {
    p_low = omega (arith, bounded.range.choice.p_low);
    width = omega (arith, bounded.range.t_high);
    k_low = bounded.range.choice.k_low;
    near = pre.near;
    left_room = pre.left_room;
    right_room = pre.right_room;
    left_fits = word-of xs pre.left_below;
    right_fits = word-of ys pre.right_below;
    total = rw words at (open-room s u pre.coherent cs operands few);
  }

  module _ {w : ℕ} (is : w ≡ u.word + products s.p s.t s.k xs ys i m) where
    abbrev added : Sum
    added = record { total = u.total + m; word = w; residues = u.residues }

    same : with_pairs s u (length cs) (sum_of_words (base s) cs) ≡ added
    same = rw (count, words, is)

    pub batch-full : held ≡ s.n → split s added ≡ after_batch s u xs ys i m
    batch-full e =
        let full : open_pairs s u + length cs ≡ s.n = rw count (omega (arith, pre.pairs)) in
        sym (batch-after s bounded.range.choice.n_low u cs few ∙ rw (eq-eqb (open_pairs s u + length cs) s.n full) (ap (split s) same))

    pub batch-unfilled : (held ≡ s.n → ⊥) → added ≡ after_batch s u xs ys i m
    batch-unfilled other =
        let more : open_pairs s u + length cs ≡ s.n → ⊥ = λ e. other (omega (arith, pre.pairs, count)) in
        sym (batch-after s bounded.range.choice.n_low u cs few ∙ rw (ne_eqb (open_pairs s u + length cs) s.n more) same)

-- ---- all of them

abbrev pub so_far : Setting → Sum → List ℕ → List ℕ → ℕ → Sum
so_far s u xs ys i = after_pairs s u (pairs_upto i (block s.k (taken s.p xs)) (block s.k (taken s.p ys)))

pub record FedSoFar (s : Setting) (u : Sum) (xs ys : List ℕ) (v : Sum) (held i : ℕ) : Type 0 where
  pub most : i ≤ length xs / s.k
  pub here : v ≡ so_far s u xs ys i
  pub pairs : held ≡ open_pairs s v

module _ {s : Setting} {u : Sum} {xs ys : List ℕ} (pre : PairsToFeed s u xs ys) where
  b : Bounds s
  b = bounds s pre.coherent.accepted

  size : length xs ≡ length xs / s.k * s.k
  size = omega (arith, div-add-mod' (length xs) s.k, pre.whole)

  pub so-far-none : FedSoFar s u xs ys u (open_pairs s u) 0
  unfolding after_pairs
  so-far-none = record { most = omega arith; here = refl; pairs = refl }

  module _ {v : Sum} {held i m : ℕ} (fed : FedSoFar s u xs ys v held i) (more : i < length xs / s.k) (take : m ≡ min (s.n - held) (length xs / s.k - i)) where
    abbrev done : List Pair
    done = pairs_upto i (block s.k (taken s.p xs)) (block s.k (taken s.p ys))

    done-count : length done ≡ i
    done-count = length_pairs i (block s.k (taken s.p xs)) (block s.k (taken s.p ys))

    done-operands : Pairs s.p s.k done
    done-operands =
        pairs-operands s.p s.k i (block s.k (taken s.p xs)) (block s.k (taken s.p ys))
        (λ r. block-operand s.p s.k (taken s.p xs) r (taken-low s.p xs pre.left_below))
        (λ r. block-operand s.p s.k (taken s.p ys) r (taken-low s.p ys pre.right_below))

    coherent : Coherent s v
    coherent = rw fed.here (coherent-after s u done pre.coherent done-operands (rw done-count (omega (arith, pre.room, fed.most))))

    total : v.total ≡ u.total + i
    total = rw fed.here (after-total s u done ∙ rw done-count)

    open-few : held < s.n
    open-few = rw fed.pairs (mod-lt v.total b.range.choice.n_low)

    inside : i + m ≤ length xs / s.k
    inside = omega arith

    reach : (i + m) * s.k ≤ length xs
    reach = omega (arith, size, mul-le-mul_right {m = i + m} {n = length xs / s.k} s.k inside)

    pub so-far-batch : OpenBatch s v (held + m) xs ys i m
    so-far-batch = record {
      coherent = coherent;
      pairs = omega (arith, fed.pairs);
      most = omega (arith, open-few);
      room = omega (arith, total, pre.room, inside);
      left_below = pre.left_below;
      right_below = pre.right_below;
      near = omega (arith, mul-le-mul {n₁ = i + m} {m₁ = s.k} {n₂ = most_pairs} {m₂ = most_coefficients} (omega (arith, inside, pre.room)) b.range.choice.k_high);
      left_room = reach;
      right_room = omega (arith, reach, pre.same_size);
    }

    pub so_far_more : {w : Sum} {next : ℕ} → w ≡ after_batch s v xs ys i m → next ≡ (held + m) % s.n → FedSoFar s u xs ys w next (i + m)
    so_far_more {w} is e = record {
      most = inside;
      here =
          is
          ∙ rw (fed.here, pairs-more i m (block s.k (taken s.p xs)) (block s.k (taken s.p ys)))
          (sym (after-join s u done (pairs_from s xs ys i m)));
      pairs =
          let counted : w.total ≡ v.total + m = rw is (after-total s v (pairs_from s xs ys i m) ∙ rw (run-count s xs ys i m)) in
          e ∙ rw (fed.pairs, counted) (mod-add-mod v.total s.n m);
    }

    pub so-far-further : i < i + m
    so-far-further = omega (arith, open-few)

  pub so-far-all : {v : Sum} {held i : ℕ} → FedSoFar s u xs ys v held i → length xs / s.k ≤ i → v ≡ fed_sum s u xs ys
  so-far-all {i = i} fed through =
      let all : i ≡ length (taken s.p xs) / s.k = omega (arith, fed.most, ap (λ (n : ℕ). n / s.k) (taken-length s.p xs)) in
      fed.here ∙ ap (so_far s u xs ys) all
