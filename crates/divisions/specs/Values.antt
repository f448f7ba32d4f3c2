-- What a polynomial is at a number, modulo p, and polynomials with given roots. Definitions only.
--     value p x a          a at x, modulo p: the sum of a_i x^i
--     linear p c           x - c
--     with_roots p f m      (x - f 1) (x - f 2) .. (x - f m), modulo p
use Rattle.std.specs.Prelude.{ℕ, zero, suc, ◌%◌, List, [], ◌∷◌}
use Rattle.polynomials.specs.Lists.{product, residues}
use Rattle.polynomials.specs.Places.{packed, minus}

abbrev pub value : ℕ → ℕ → List ℕ → ℕ
value p x a = packed x a % p

abbrev pub linear : ℕ → ℕ → List ℕ
linear p c = minus p 0 c ∷ 1 ∷ []

unfoldable pub with_roots : ℕ → (ℕ → ℕ) → ℕ → List ℕ
with_roots p f zero = 1 ∷ []
with_roots p f (suc m) = residues p (product (with_roots p f m) (linear p (f (suc m))))
