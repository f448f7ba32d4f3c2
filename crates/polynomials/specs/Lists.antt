-- A list of whole numbers as a polynomial, the coefficient of x^0 first. Definitions only.
--     coefficient xs j          what stands at j, and zero past the end
--     part i end xs             what stands from place i on, up to and without place end: a part of a list, as the code cuts it
--     sum xs ys                 place by place
--     scaled c xs               c times every coefficient
--     product_length m n         the length of a product: m + n - 1, and none if either factor is empty
--     product_at xs ys j         the schoolbook coefficient: the sum of x_i y_(j - i), i from 0 to j
--     product xs ys             the list of these
--     residues p xs             every coefficient modulo p
--     Below b xs                every coefficient is below b
--     Within f xs               coefficient j is at most f j
--     Operand p k xs            at most k coefficients, all below p: what is packed into one word
--     Pair, Pairs p k cs        two lists; each of the pairs is two operands
--     sum_of_products cs          the products of the pairs, added up
--     product_most p k j         min(j + 1, 2k - 1 - j) (p - 1)^2, which bounds coefficient j of a product of two operands
--     batch_most p k r j         r times that, for the sum of r such products
use Rattle.std.specs.Prelude.{ℕ, zero, suc, ◌+◌, ◌-◌, ◌*◌, ◌%◌, ◌<◌, ◌≤◌, min, List, [], ◌∷◌, length, get_or, take, drop}
use Rattle.polynomials.specs.Indices.{sum_to, upto}

abbrev pub coefficient : List ℕ → ℕ → ℕ
coefficient xs j = get_or xs j 0

abbrev pub part : ℕ → ℕ → List ℕ → List ℕ
part i end xs = take (end - i) (drop i xs)

abbrev pub sum : List ℕ → List ℕ → List ℕ
sum [] ys = ys
sum (x ∷ xs) [] = x ∷ xs
sum (x ∷ xs) (y ∷ ys) = (x + y) ∷ sum xs ys

abbrev pub scaled : ℕ → List ℕ → List ℕ
scaled c [] = []
scaled c (x ∷ xs) = (c * x) ∷ scaled c xs

abbrev pub product_length : ℕ → ℕ → ℕ
product_length zero n = 0
product_length (suc m) zero = 0
product_length (suc m) (suc n) = suc m + suc n - 1

abbrev pub product_at : List ℕ → List ℕ → ℕ → ℕ
product_at xs ys j = sum_to (suc j) (λ i. coefficient xs i * coefficient ys (j - i))

abbrev pub product : List ℕ → List ℕ → List ℕ
product xs ys = upto (product_length (length xs) (length ys)) (product_at xs ys)

abbrev pub residues : ℕ → List ℕ → List ℕ
residues p [] = []
residues p (x ∷ xs) = (x % p) ∷ residues p xs

abbrev pub Below : ℕ → List ℕ → Type 0
Below b xs = (j : ℕ) → coefficient xs j < b

abbrev pub Within : (ℕ → ℕ) → List ℕ → Type 0
Within f xs = (j : ℕ) → coefficient xs j ≤ f j

pub record Operand (p k : ℕ) (xs : List ℕ) : Type 0 where
  pub size : length xs ≤ k
  pub below : Below p xs

pub record Pair : Type 0 where
  pub left : List ℕ
  pub right : List ℕ

abbrev pub Pairs : ℕ → ℕ → List Pair → Type 0
Pairs p k [] = Unit {0}
Pairs p k (c ∷ cs) = Operand p k c.left × Operand p k c.right × Pairs p k cs

abbrev pub sum_of_products : List Pair → List ℕ
sum_of_products [] = []
sum_of_products (c ∷ cs) = sum (product c.left c.right) (sum_of_products cs)

abbrev pub product_most : ℕ → ℕ → ℕ → ℕ
product_most p k j = min (j + 1) (2 * k - 1 - j) * ((p - 1) * (p - 1))

abbrev pub batch_most : ℕ → ℕ → ℕ → ℕ → ℕ
batch_most p k r j = r * product_most p k j
