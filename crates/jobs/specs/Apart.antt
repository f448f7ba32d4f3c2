-- Bytes taken apart: what the private loops on coefficients ask and promise. Definitions only.
--     Raised                     bounds that have been raised: none is lower than it was, and the first m of them to m coefficients from index i on
--     block_size                  2,048 coefficients of each side at a time
--     Copying, Copied            k coefficients are there from index i on, and there is room for them from place j on; they have been put there
--     Parting, TakenApart        m pairs are there, and there is room for them; they have been taken apart
use Rattle.std.specs.Prelude.{ℕ, ◌+◌, ◌*◌, ◌/◌, ◌≤◌, ◌<◌, ◌≡◌, List, length}
use Rattle.polynomials.specs.Lists.{coefficient}

pub record Raised (cs : List ℕ) (i m : ℕ) (old new : List ℕ) : Type 0 where
  pub kept : (j : ℕ) → coefficient old j ≤ coefficient new j
  pub above : (j : ℕ) → j < m → coefficient cs (i + j) ≤ coefficient new j

abbrev pub block_size : ℕ
block_size = 2048

pub record Copying (bs : List ℕ) (i j k : ℕ) : Type 0 where
  pub there : i + k ≤ length bs / 2
  pub room : j + k ≤ block_size

pub record Copied (cs : List ℕ) (i j k : ℕ) (old new : List ℕ) : Type 0 where
  pub put : (r : ℕ) → r < k → coefficient new (j + r) ≡ coefficient cs (i + r)
  pub before : (r : ℕ) → r < j → coefficient new r ≡ coefficient old r

pub record Parting (k m : ℕ) (bs : List ℕ) : Type 0 where
  pub k_low : 1 ≤ k
  pub room : m * k ≤ block_size
  pub there : 2 * m * k ≤ length bs / 2

pub record TakenApart (k m : ℕ) (cs xs ys : List ℕ) : Type 0 where
  pub left : (r j : ℕ) → r < m → j < k → coefficient xs (r * k + j) ≡ coefficient cs (2 * r * k + j)
  pub right : (r j : ℕ) → r < m → j < k → coefficient ys (r * k + j) ≡ coefficient cs ((2 * r + 1) * k + j)
