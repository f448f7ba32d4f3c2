-- Document 003's example, from the definitions alone: four fields in the base 10^6, reduced modulo 23. No call takes such a base.
--     example, example-fields     the number whose fields are 4567, 9123, 5678, 1234
--     example-shifted             its u are 15, 8, 18, 15
--     example-reduced             the residues of its fields are 13, 15, 20, 15
--     shifted-no-residue          so the u need not be the residues: at place 0, 15 is not 13
use Rattle.std.specs.Prelude.{ℕ, ◌≡◌, refl, [], ◌∷◌}
use Rattle.std.proofs.Common.{arith}
use Rattle.polynomials.specs.Indices.{upto}
use Rattle.polynomials.specs.Places.{packed, fields, shifted, reduced}

abbrev pub example : ℕ
example = packed 1000000 (4567 ∷ 9123 ∷ 5678 ∷ 1234 ∷ [])

pub example-fields : fields 1000000 4 example ≡ 4567 ∷ 9123 ∷ 5678 ∷ 1234 ∷ []
example-fields = refl

pub example-shifted : upto 4 (shifted 23 1000000 example) ≡ 15 ∷ 8 ∷ 18 ∷ 15 ∷ []
example-shifted = refl

pub example-reduced : upto 4 (reduced 23 1000000 example) ≡ 13 ∷ 15 ∷ 20 ∷ 15 ∷ []
example-reduced = refl

pub shifted-no-residue : shifted 23 1000000 example 0 ≡ reduced 23 1000000 example 0 → ⊥
shifted-no-residue e = omega arith
