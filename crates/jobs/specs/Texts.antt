-- How long a line is at most. Definitions only.
--     longest_line                         126 bytes: p in at most 5, k in 1, t in 2, n, pairs and reductions in 7 each, 15 coefficients in 5
--                                         each; a space before all of these but p; the colon and the line end
--     Short s pairs reductions sums       numbers whose line is not longer
use Rattle.std.specs.Prelude.{ℕ, ◌≤◌, List, length}
use Rattle.settings.specs.Limits.{most_pairs, residue_places}
use Rattle.settings.specs.Settings.{InRange}
use Rattle.settings.specs.declared.setting.Setting.{Setting}

abbrev pub longest_line : ℕ
longest_line = 126

pub record Short (s : Setting) (pairs reductions : ℕ) (sums : List ℕ) : Type 0 where
  pub range : InRange s
  pub pairs_most : pairs ≤ most_pairs
  pub reductions_most : reductions ≤ most_pairs
  pub places_most : length sums ≤ residue_places
