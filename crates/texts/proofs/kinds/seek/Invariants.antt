-- `seek` meets its promise: the search from i is the search from where it stands, at every turn. Assumes nothing.
use Rattle.std.proofs.Common.{◌≡◌, ◌-◌, ◌≤◌, max, length}
use Rattle.polynomials.specs.Indices.{first}
use Rattle.texts.specs.Kinds.{passes_at, place_where}
use Rattle.texts.proofs.kinds.seek.Given as goal

abbrev pub invariant-loop-at : goal.invariant-loop-at
invariant-loop-at g l =
    (l.at ≤ max l.i (length l.text))
    × (place_where (g.T.Wanted.wants l.what) l.text l.i ≡ first (passes_at (g.T.Wanted.wants l.what) l.text) (length l.text - l.at) l.at)
