-- How large the coefficients of products and of their sums can be. Assumes nothing.
--     product-most     coefficient j of a product of two operands: min(j + 1, 2k - 1 - j) (p - 1)^2
--     batch-most       coefficient j of a sum of r such products: r times that
--     batch-more       more products, a larger bound
--     batch-narrow     no place of r products is above r k (p - 1)^2
--     batch-past       from 2k - 1 on there is nothing
use Rattle.std.specs.Prelude.{ℕ, suc, ◌+◌, ◌-◌, ◌*◌, ◌≤◌, ◌<◌, min, ◌≡◌, List, [], ◌∷◌, length}
use Rattle.std.proofs.Common.{zero-le, le_trans, mul-le-mul, mul-le-mul_left, mul-le-mul_right, mul-zero, zero-mul, suc-mul, mul_assoc, arith}
use Rattle.polynomials.specs.Lists.{coefficient, product, Within, Operand, Pair, Pairs, sum_of_products, product_most, batch_most}
use Rattle.polynomials.specs.IndexLaws.{sum-window}
use Rattle.polynomials.specs.ListLaws.{coefficient-past, coefficient-sum, coefficient-product}

pub product-most : (p k : ℕ) (xs ys : List ℕ) → Operand p k xs → Operand p k ys → Within (product_most p k) (product xs ys)
product-most p k xs ys a b j =
    rw coefficient-product
    (le_trans (sum-window (suc j - k) k ((p - 1) * (p - 1)) (λ i. coefficient xs i * coefficient ys (j - i)) term low high (suc j)) (mul-le-mul_right ((p - 1) * (p - 1)) (omega arith)))
  where
    term : (i : ℕ) → coefficient xs i * coefficient ys (j - i) ≤ (p - 1) * (p - 1)
    term i = mul-le-mul {n₁ = coefficient xs i} {m₁ = coefficient ys (j - i)} (omega (arith, a.below i)) (omega (arith, b.below (j - i)))

    low : (i : ℕ) → i < suc j - k → coefficient xs i * coefficient ys (j - i) ≡ 0
    low i h = rw (coefficient-past ys (j - i) (omega (arith, b.size)), mul-zero)

    high : (i : ℕ) → k ≤ i → coefficient xs i * coefficient ys (j - i) ≡ 0
    high i h = rw (coefficient-past xs i (omega (arith, a.size)), zero-mul)

pub batch-most : (p k : ℕ) (cs : List Pair) → Pairs p k cs → Within (batch_most p k (length cs)) (sum_of_products cs)
batch-most p k [] h j = zero-le
batch-most p k (c ∷ cs) h j =
    rw (coefficient-sum (product c.left c.right) (sum_of_products cs) j, suc-mul (length cs))
    (omega (arith, product-most p k c.left c.right h.0 h.1 j, batch-most p k cs h.2 j))

pub batch-more : (p k r n : ℕ) → r ≤ n → (j : ℕ) → batch_most p k r j ≤ batch_most p k n j
batch-more p k r n h j = mul-le-mul_right (product_most p k j) h

pub batch-narrow : (p k r j : ℕ) → batch_most p k r j ≤ r * k * ((p - 1) * (p - 1))
batch-narrow p k r j = rw mul_assoc (mul-le-mul_left r (mul-le-mul_right {m = min (j + 1) (2 * k - 1 - j)} ((p - 1) * (p - 1)) (omega arith)))

pub batch-past : (p k r j : ℕ) → 2 * k - 1 ≤ j → batch_most p k r j ≡ 0
batch-past p k r j h =
    let e : min (j + 1) (2 * k - 1 - j) ≡ 0 = omega arith in
    rw (e, zero-mul, mul-zero)
