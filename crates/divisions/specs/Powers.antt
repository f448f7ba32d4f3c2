-- The powers of a number modulo p, as a table of one whole round. Definitions only.
--     runs p x here xs     the first of xs is `here`, each next one is x times the one before, modulo p, and x times the last is 1
--     all_powers p x xs     the rule of a table of the powers of x modulo p: the first is 1, the next is x times this, modulo p, and x
--                          times the last is the first; a test that is computed over the whole table
use Rattle.std.specs.Prelude.{ℕ, ◌*◌, ◌%◌, Bool, ◌&&◌, List, [], ◌∷◌, eqb}

abbrev pub runs : ℕ → ℕ → ℕ → List ℕ → Bool
runs p x here [] = eqb here 1
runs p x here (y ∷ ys) = eqb y here && runs p x (x * y % p) ys

abbrev pub all_powers : ℕ → ℕ → List ℕ → Bool
all_powers p x xs = runs p x 1 xs
