-- `add_words` meets its contract: after r pairs their products are added, which is no more than all of them. Assumes nothing.
use Rattle.std.proofs.Common.{ℕ, ◌≡◌, ◌+◌, ◌*◌, ◌^◌, ◌≤◌, ◌<◌, refl, List, ◌∙◌, arith, mul-le-mul_right, add-zero, add-one}
use Rattle.polynomials.specs.IndexLaws.{sum-fewer}
use Rattle.polynomials.specs.Blocks.{block_at}
use Rattle.packed.specs.Taken.{taken}
use Rattle.packed.specs.Feeding.{Multiplying}
use Rattle.packed.specs.FedPairs.{products}
use Rattle.packed.proofs.batches.add_words.Goals as goal

module _ {p t k : ℕ} {xs ys : List ℕ} {i m word : ℕ} (pre : Multiplying p t k xs ys i m word) where
  -- what has been added after pair r of them, and that it can be multiplied
  module _ {r sum : ℕ} (l : r < m) (e : sum ≡ word + products p t k xs ys i r) where
    next : {w n : ℕ} → n ≡ r + 1 → w ≡ sum + products p t k xs ys (i + r) 1 → w ≡ word + products p t k xs ys i n
    next to is = is ∙ rw (to, add-one r, add-zero (i + r), e) (omega arith)

    inside : (i + r + 1) * k ≤ (i + m) * k
    inside = mul-le-mul_right {m = i + r + 1} {n = i + m} k (omega arith)

    pair : Multiplying p t k xs ys (i + r) 1 sum
    pair = record {
      p_low = pre.p_low;
      width = pre.width;
      k_low = pre.k_low;
      near = omega (arith, inside, pre.near);
      left_room = omega (arith, inside, pre.left_room);
      right_room = omega (arith, inside, pre.right_room);
      left_fits = pre.left_fits;
      right_fits = pre.right_fits;
      total = rw (next refl refl) (omega (arith, pre.total, sum-fewer (λ v. block_at (2 ^ t) k (taken p xs) (i + v) * block_at (2 ^ t) k (taken p ys) (i + v)) (r + 1) m (omega arith)));
    }

pub add_pair-sum-requires : goal.add_pair-sum-requires
add_pair-sum-requires c = pair c.requires (omega (arith, c.loop-r-test.true)) c.loop-r.invariant.1

pub add_pair-sum-requires-in-loop-r : goal.add_pair-sum-requires-in-loop-r
add_pair-sum-requires-in-loop-r c =
    let pre = c.requires in
    let one = next pre (omega (arith, c.loop-r-test.true)) c.loop-r.invariant.1 refl c.add_pair-sum.ensures in
    pair pre c.loop-r-test.true one

pub add_pair-requires : goal.add_pair-requires
add_pair-requires c = pair c.requires c.if-r-count.true c.loop-r.invariant.1
