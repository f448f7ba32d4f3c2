-- `batch` meets its contract: after r turns each sum is that of the first r products, which is no more than the whole. Assumes nothing.
use Rattle.std.proofs.Common.{ℕ, ◌≡◌, refl, ◌+◌, ◌*◌, ◌^◌, ◌≤◌, ◌<◌, List, length, arith, lt_of_le_of_lt, zero-add, add-one}
use Rattle.polynomials.specs.IndexLaws.{sum-fewer}
use Rattle.polynomials.specs.Lists.{coefficient}
use Rattle.polynomials.specs.Blocks.{dot}
use Rattle.packed.specs.Gathering.{Batching}
use Rattle.packed.proofs.columns.batch.Goals as goal

module _ (xs ys : List ℕ) (pre : Batching xs ys) (u r at sum : ℕ) (here : at ≡ u + r) (near : u ≤ 3) (e : sum ≡ dot (coefficient xs) (coefficient ys) 0 u r) where
  turn : sum + coefficient xs r * coefficient ys at ≡ dot (coefficient xs) (coefficient ys) 0 u (r + 1)
  turn = rw (add-one, e, here, zero-add r)

  room : r < length xs → (coefficient xs r < 2 ^ 32) × (coefficient ys at < 2 ^ 32) × (sum + coefficient xs r * coefficient ys at < 2 ^ 64)
  room h = (
    pre.left_below r,
    pre.right_below at,
    rw turn (lt_of_le_of_lt (sum-fewer (λ v. coefficient xs (0 + v) * coefficient ys (u + v)) (r + 1) (length xs) (omega arith)) (pre.fits u near)),
  )

pub add_product-first-requires : goal.add_product-first-requires
add_product-first-requires c =
    let a = c.args in
    let l = c.loop-r in
    room a.xs.now a.ys.now c.requires 3 l.r (3 + l.r) l.first refl (omega arith) l.invariant.at_3 (omega arith)

pub add_product-second-requires : goal.add_product-second-requires
add_product-second-requires c =
    let a = c.args in
    let l = c.loop-r in
    room a.xs.now a.ys.now c.requires 2 l.r (2 + l.r) l.second refl (omega arith) l.invariant.at_2 (omega arith)

pub add_product-third-requires : goal.add_product-third-requires
add_product-third-requires c =
    let a = c.args in
    let l = c.loop-r in
    room a.xs.now a.ys.now c.requires 1 l.r (1 + l.r) l.third refl (omega arith) l.invariant.at_1 (omega arith)

pub add_product-fourth-requires : goal.add_product-fourth-requires
add_product-fourth-requires c =
    let a = c.args in
    let l = c.loop-r in
    room a.xs.now a.ys.now c.requires 0 l.r l.r l.fourth (omega arith) (omega arith) l.invariant.at_0 (omega arith)
