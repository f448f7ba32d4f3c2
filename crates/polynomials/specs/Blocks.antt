-- A list cut into blocks of k coefficients, and the sums that a product of two such lists is gathered from. Definitions only.
--     blocks k m            how many blocks m coefficients take: m / k, rounded up
--     block k xs i          the k coefficients from place i k on, zeros where the list has ended
--     block_at q k xs i      that block, packed in the base q
--     block_list q k m xs    the first m of these
--     pairs_upto m f g       the pairs f 0 and g 0, .., f (m - 1) and g (m - 1)
--     dot f g i j m         f i g j + .. + f (i + m - 1) g (j + m - 1)
--     spread q m b w        the number w taken apart into m fields of the base q, put together in the base b
--     raised xs i v         xs with v added at place i
--     down ys z i           what coefficient i of a first factor meets in ys, in coefficient z of the product
--     backwards w ys r      ys with the last coefficient first, w zeros before it and zeros after it
use Rattle.std.specs.Prelude.{ℕ, zero, suc, ◌+◌, ◌-◌, ◌*◌, List, [], ◌∷◌, ltb, length, set}
use Rattle.polynomials.specs.Indices.{pick, rounded_up, sum_to, upto}
use Rattle.polynomials.specs.Lists.{coefficient, Pair}
use Rattle.polynomials.specs.Places.{packed, fields}

abbrev pub blocks : ℕ → ℕ → ℕ
blocks k m = rounded_up m k

abbrev pub block : ℕ → List ℕ → ℕ → List ℕ
block k xs i = upto k (λ j. coefficient xs (i * k + j))

abbrev pub block_at : ℕ → ℕ → List ℕ → ℕ → ℕ
block_at q k xs i = packed q (block k xs i)

abbrev pub block_list : ℕ → ℕ → ℕ → List ℕ → List ℕ
block_list q k m xs = upto m (block_at q k xs)

abbrev pub pairs_upto : ℕ → (ℕ → List ℕ) → (ℕ → List ℕ) → List Pair
pairs_upto zero f g = []
pairs_upto (suc m) f g = record { left = f 0; right = g 0 } ∷ pairs_upto m (λ r. f (suc r)) (λ r. g (suc r))

abbrev pub dot : (ℕ → ℕ) → (ℕ → ℕ) → ℕ → ℕ → ℕ → ℕ
dot f g i j m = sum_to m (λ r. f (i + r) * g (j + r))

abbrev pub spread : ℕ → ℕ → ℕ → ℕ → ℕ
spread q m b w = packed b (fields q m w)

abbrev pub raised : List ℕ → ℕ → ℕ → List ℕ
raised xs i v = set xs i (coefficient xs i + v)

abbrev pub down : List ℕ → ℕ → ℕ → ℕ
down ys z i = pick (ltb i (suc z)) (coefficient ys (z - i)) 0

abbrev pub backwards : ℕ → List ℕ → ℕ → ℕ
backwards w ys r = pick (ltb r (length ys + w)) (coefficient ys (length ys + w - 1 - r)) 0
