-- What the workers of feed ask of each other. Definitions only.
--     OpenBatch s u held xs ys i m            m pairs, from pair i on, fit the open batch, which holds held pairs after them
--     after_batch s u xs ys i m                the sum after these pairs
--     Multiplying p t k xs ys i m word        there is room in a word for the sum of their packed products, and for each factor
use Rattle.std.specs.Prelude.{ℕ, ◌+◌, ◌*◌, ◌^◌, ◌≤◌, ◌<◌, ◌≡◌, List, length}
use Rattle.polynomials.specs.Lists.{Below}
use Rattle.polynomials.specs.Blocks.{block_at}
use Rattle.settings.specs.Limits.{word_bits, most_pairs}
use Rattle.packed.specs.Taken.{taken}
use Rattle.packed.specs.Running.{open_pairs, Coherent, after_pairs}
use Rattle.packed.specs.FedPairs.{pairs_from, products}
use Rattle.settings.specs.declared.setting.Setting.{Setting}
use Rattle.packed.specs.declared.running.Sum.{Sum}

pub record OpenBatch (s : Setting) (u : Sum) (held : ℕ) (xs ys : List ℕ) (i m : ℕ) : Type 0 where
  pub coherent : Coherent s u
  pub pairs : open_pairs s u + m ≡ held
  pub most : held ≤ s.n
  pub room : u.total + m ≤ most_pairs
  pub left_below : Below s.p xs
  pub right_below : Below s.p ys
  pub near : (i + m) * s.k < 2 ^ 32
  pub left_room : (i + m) * s.k ≤ length xs
  pub right_room : (i + m) * s.k ≤ length ys

abbrev pub after_batch : Setting → Sum → List ℕ → List ℕ → ℕ → ℕ → Sum
after_batch s u xs ys i m = after_pairs s u (pairs_from s xs ys i m)

pub record Multiplying (p t k : ℕ) (xs ys : List ℕ) (i m word : ℕ) : Type 0 where
  pub p_low : 0 < p
  pub width : t < word_bits
  pub k_low : 1 ≤ k
  pub near : (i + m) * k < 2 ^ 32
  pub left_room : (i + m) * k ≤ length xs
  pub right_room : (i + m) * k ≤ length ys
  pub left_fits : (r : ℕ) → block_at (2 ^ t) k (taken p xs) r < 2 ^ 32
  pub right_fits : (r : ℕ) → block_at (2 ^ t) k (taken p ys) r < 2 ^ 32
  pub total : word + products p t k xs ys i m < 2 ^ word_bits
