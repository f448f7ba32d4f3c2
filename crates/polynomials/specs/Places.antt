-- The places of a number in a base q, which may be any number: 2^t in a word, 10^6 in document 003's example. Definitions only.
--     packed q xs       the sum of x_i q^i
--     field q r i       the field of r at place i, floor(r / q^i) mod q
--     fields q m r      the m lowest fields of r, the lowest first
--     shifted p q r i   u_i = floor(r / q^i) mod p
--     reduced p q r i   m_i, the field at place i modulo p
--     minus p u w       (u - w) mod p, taken in 0..p-1
--     sum_of_words q cs   the products of the pairs' packed numbers, added up
--     entry p q j       entry j of a correction table: entry u + p v is (u - q v) mod p
--     looked_up p q es r i
--                       what stands among the entries es at u_i + p u_(i + 1)
use Rattle.std.specs.Prelude.{ℕ, suc, ◌+◌, ◌-◌, ◌*◌, ◌/◌, ◌%◌, ◌^◌, List, [], ◌∷◌}
use Rattle.polynomials.specs.Indices.{upto}
use Rattle.polynomials.specs.Lists.{coefficient, Pair}

abbrev pub packed : ℕ → List ℕ → ℕ
packed q [] = 0
packed q (x ∷ xs) = x + q * packed q xs

abbrev pub field : ℕ → ℕ → ℕ → ℕ
field q r i = r / q ^ i % q

abbrev pub fields : ℕ → ℕ → ℕ → List ℕ
fields q m r = upto m (field q r)

abbrev pub shifted : ℕ → ℕ → ℕ → ℕ → ℕ
shifted p q r i = r / q ^ i % p

abbrev pub reduced : ℕ → ℕ → ℕ → ℕ → ℕ
reduced p q r i = field q r i % p

abbrev pub minus : ℕ → ℕ → ℕ → ℕ
minus p u w = (u + (p - w % p)) % p

abbrev pub sum_of_words : ℕ → List Pair → ℕ
sum_of_words q [] = 0
sum_of_words q (c ∷ cs) = packed q c.left * packed q c.right + sum_of_words q cs

abbrev pub entry : ℕ → ℕ → ℕ → ℕ
entry p q j = minus p (j % p) (q * (j / p))

abbrev pub looked_up : ℕ → ℕ → List ℕ → ℕ → ℕ → ℕ
looked_up p q es r i = coefficient es (shifted p q r i + p * shifted p q r (suc i))
