-- Pairs that are added up: what the private functions ask. Definitions only.
--     Adding s u pairs       a coherent record, and pairs still to come that it has room for
--     Feedable s u bs        bytes of whole pairs that feed takes: all coefficients below p, and room for them
--     Block s u bs           as many of them as are taken apart at a time
use Rattle.std.specs.Prelude.{ℕ, ◌+◌, ◌*◌, ◌/◌, ◌%◌, ◌≤◌, ◌≡◌, List, length}
use Rattle.polynomials.specs.Lists.{Below}
use Rattle.settings.specs.Limits.{most_pairs}
use Rattle.packed.specs.Running.{Coherent}
use Rattle.settings.specs.declared.setting.Setting.{Setting}
use Rattle.packed.specs.declared.running.Sum.{Sum}
use Rattle.jobs.specs.Jobs.{pair_bytes, coefficients_in}
use Rattle.jobs.specs.Apart.{block_size}

pub record Adding (s : Setting) (u : Sum) (pairs : ℕ) : Type 0 where
  pub coherent : Coherent s u
  pub added : u.total ≤ pairs
  pub most : pairs ≤ most_pairs

pub record Feedable (s : Setting) (u : Sum) (bs : List ℕ) : Type 0 where
  pub coherent : Coherent s u
  pub whole : length bs % pair_bytes s.k ≡ 0
  pub room : u.total + length bs / pair_bytes s.k ≤ most_pairs
  pub below : Below s.p (coefficients_in bs)

pub record Block (s : Setting) (u : Sum) (bs : List ℕ) : Type 0 where
  pub feedable : Feedable s u bs
  pub small : length bs / pair_bytes s.k * s.k ≤ block_size
