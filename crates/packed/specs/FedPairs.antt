-- The pairs that a feed is given, as its promise speaks of them. Assumes nothing.
--     PairsToFeed s u xs ys       two flat lists to be fed to a sum: nothing is refused
--     fed_sum s u xs ys            the sum after their pairs
--     fed-operands, fed-count     the pairs of two flat lists are operands, and so many
--     pairs_from s xs ys i m       m of the pairs, from pair i on
--     products p t k xs ys i m    the sum of their packed products
--     run-count, run-words, run-operands
--                                 of such pairs: how many, the sum of their packed products, that they are operands
use Rattle.std.specs.Prelude.{ℕ, ◌+◌, ◌/◌, ◌%◌, ◌^◌, ◌≤◌, ◌≡◌, List, length}
use Rattle.std.proofs.Common.{ap, ◌∙◌}
use Rattle.polynomials.specs.Lists.{Below, Pair, Pairs}
use Rattle.polynomials.specs.Places.{sum_of_words}
use Rattle.polynomials.specs.Blocks.{block, block_at, pairs_upto, dot}
use Rattle.polynomials.specs.BlockLaws.{block-operand, length_pairs, pairs-operands, words-of-pairs}
use Rattle.polynomials.specs.PairLaws.{length-pairs-of, pairs-of-operands}
use Rattle.settings.specs.Limits.{most_pairs}
use Rattle.settings.specs.Settings.{base}
use Rattle.settings.specs.declared.setting.Setting.{Setting}
use Rattle.packed.specs.Taken.{taken, taken-length, taken-low}
use Rattle.packed.specs.Running.{Coherent, after_pairs, fed_pairs}
use Rattle.packed.specs.declared.running.Sum.{Sum}

pub record PairsToFeed (s : Setting) (u : Sum) (xs ys : List ℕ) : Type 0 where
  pub coherent : Coherent s u
  pub same_size : length xs ≡ length ys
  pub whole : length xs % s.k ≡ 0
  pub room : u.total + length xs / s.k ≤ most_pairs
  pub left_below : Below s.p xs
  pub right_below : Below s.p ys

abbrev pub fed_sum : Setting → Sum → List ℕ → List ℕ → Sum
fed_sum s u xs ys = after_pairs s u (fed_pairs s xs ys)

pub fed-operands : (s : Setting) (xs ys : List ℕ) → Below s.p xs → Below s.p ys → Pairs s.p s.k (fed_pairs s xs ys)
fed-operands s xs ys hx hy = pairs-of-operands s.p s.k (taken s.p xs) (taken s.p ys) (taken-low s.p xs hx) (taken-low s.p ys hy)

pub fed-count : (s : Setting) (xs ys : List ℕ) → length (fed_pairs s xs ys) ≡ length xs / s.k
fed-count s xs ys = length-pairs-of s.k (taken s.p xs) (taken s.p ys) ∙ ap (λ (n : ℕ). n / s.k) (taken-length s.p xs)

-- ---- pairs that follow one another

abbrev pub pairs_from : Setting → List ℕ → List ℕ → ℕ → ℕ → List Pair
pairs_from s xs ys i m = pairs_upto m (λ r. block s.k (taken s.p xs) (i + r)) (λ r. block s.k (taken s.p ys) (i + r))

abbrev pub products : ℕ → ℕ → ℕ → List ℕ → List ℕ → ℕ → ℕ → ℕ
products p t k xs ys i m = dot (block_at (2 ^ t) k (taken p xs)) (block_at (2 ^ t) k (taken p ys)) i i m

module _ (s : Setting) (xs ys : List ℕ) (i m : ℕ) where
  abbrev left : ℕ → List ℕ
  left r = block s.k (taken s.p xs) (i + r)

  abbrev right : ℕ → List ℕ
  right r = block s.k (taken s.p ys) (i + r)

  pub run-count : length (pairs_from s xs ys i m) ≡ m
  run-count = length_pairs m left right

  pub run-words : sum_of_words (base s) (pairs_from s xs ys i m) ≡ products s.p s.t s.k xs ys i m
  run-words = words-of-pairs (base s) m left right

  pub run-operands : Below s.p xs → Below s.p ys → Pairs s.p s.k (pairs_from s xs ys i m)
  run-operands hx hy =
      pairs-operands s.p s.k m left right
      (λ r. block-operand s.p s.k (taken s.p xs) (i + r) (taken-low s.p xs hx))
      (λ r. block-operand s.p s.k (taken s.p ys) (i + r) (taken-low s.p ys hy))
