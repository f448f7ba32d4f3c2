-- `add_pair` meets its contract: the two parts of the lists are blocks j, so their words are the factors of product j. Assumes nothing.
use Rattle.std.proofs.Common.{ℕ, ◌≡◌, ◌+◌, ◌*◌, ◌^◌, List, ◌∙◌, arith, add-zero}
use Rattle.polynomials.specs.Lists.{part}
use Rattle.polynomials.specs.Places.{packed}
use Rattle.polynomials.specs.Blocks.{block_at}
use Rattle.packed.specs.Taken.{taken, taken-block}
use Rattle.packed.specs.Feeding.{Multiplying}
use Rattle.packed.specs.FedPairs.{products}
use Rattle.packed.proofs.batches.add_pair.Goals as goal

module _ {p t k : ℕ} {xs ys : List ℕ} {j word : ℕ} (pre : Multiplying p t k xs ys j 1 word) where
  left : packed (2 ^ t) (taken p (part (j * k) (j * k + k) xs)) ≡ block_at (2 ^ t) k (taken p xs) j
  left = taken-block (2 ^ t) p k xs j (omega (arith, pre.left_room))

  right : packed (2 ^ t) (taken p (part (j * k) (j * k + k) ys)) ≡ block_at (2 ^ t) k (taken p ys) j
  right = taken-block (2 ^ t) p k ys j (omega (arith, pre.right_room))

  module _ {x y : ℕ} (hx : x ≡ packed (2 ^ t) (taken p (part (j * k) (j * k + k) xs))) (hy : y ≡ packed (2 ^ t) (taken p (part (j * k) (j * k + k) ys))) where
    added : word + x * y ≡ word + products p t k xs ys j 1
    added = rw (add-zero j, hx ∙ left, hy ∙ right) (omega arith)

pub pack_taken-requires : goal.pack_taken-requires
pack_taken-requires c =
    let pre = c.requires in
    (pre.p_low, pre.width, rw (left pre) (omega (arith, pre.left_fits c.args.j)))

pub pack_taken-requires-2 : goal.pack_taken-requires-2
pack_taken-requires-2 c =
    let pre = c.requires in
    (pre.p_low, pre.width, rw (right pre) (omega (arith, pre.right_fits c.args.j)))

pub returns : goal.returns
returns c = added c.requires c.pack_taken.ensures c.pack_taken-2.ensures

pub overflow_mul-result : goal.overflow_mul-result
overflow_mul-result c = omega (arith, returns c, c.requires.total)

pub overflow_add-result : goal.overflow_add-result
overflow_add-result c = omega (arith, returns c, c.requires.total)
