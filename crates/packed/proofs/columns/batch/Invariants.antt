-- `batch` meets its contract: after r turns each sum is that of the first r products, which is no more than the whole. Assumes nothing.
use Rattle.std.proofs.Common.{ℕ, ◌≡◌, List}
use Rattle.polynomials.specs.Lists.{coefficient}
use Rattle.polynomials.specs.Blocks.{dot}
use Rattle.packed.proofs.columns.batch.Given as goal

pub record Turn (xs ys : List ℕ) (first second third fourth r : ℕ) : Type 0 where
  pub at_3 : first ≡ dot (coefficient xs) (coefficient ys) 0 3 r
  pub at_2 : second ≡ dot (coefficient xs) (coefficient ys) 0 2 r
  pub at_1 : third ≡ dot (coefficient xs) (coefficient ys) 0 1 r
  pub at_0 : fourth ≡ dot (coefficient xs) (coefficient ys) 0 0 r

abbrev pub invariant-loop-r : goal.invariant-loop-r
invariant-loop-r l = Turn l.xs l.ys l.first l.second l.third l.fourth l.r
