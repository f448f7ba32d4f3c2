-- Laws of values modulo p, and of polynomials with given roots. Assumes nothing.
--     value_same          one polynomial modulo p has one value
--     value-multiple      a multiple of what is 0 at x is 0 at x
--     packed-sum-of       a packed number is the sum of a_i x^i
--     linear-below        x - c has its coefficients in 0..p-1
--     length-with_roots    a polynomial with m given roots has m + 1 coefficients
--     roots-monic         it is x^m and lower powers
--     roots-below         its coefficients are in 0..p-1
--     roots-vanish        it is 0 at each of the roots
use Rattle.std.specs.Prelude.{ℕ, zero, suc, ◌+◌, ◌-◌, ◌*◌, ◌%◌, ◌^◌, ◌≤◌, ◌≡◌, refl, List, [], ◌∷◌, length}
use Rattle.std.proofs.Common.{sym, ap, ◌∙◌, ⊎_elim, mul-zero, mul_comm, mod-lt, mod-eq_of_lt, eq-or-lt_of_le, arith}
use Rattle.std.proofs.Math.Nat.{zero-mod, mod-add-mod, add-mod-mod}
use Rattle.polynomials.specs.Indices.{upto, sum_to}
use Rattle.polynomials.specs.Lists.{coefficient, product, product_at, residues, Below}
use Rattle.polynomials.specs.Places.{packed, minus}
use Rattle.polynomials.specs.IndexLaws.{length-upto, sum-zero}
use Rattle.polynomials.specs.ListLaws.{coefficients, coefficient-past, length-residues, coefficient-residues, length-product, coefficient-product}
use Rattle.polynomials.specs.PlaceLaws.{packed-agree, packed-snoc, packed-product}
use Rattle.polynomials.specs.ReductionLaws.{mul-mod, minus-below, minus_is}
use Rattle.divisions.specs.Divisions.{Same, Monic}
use Rattle.divisions.specs.Values.{value, linear, with_roots}

factor-same : (p c a b : ℕ) → a % p ≡ b % p → c * a % p ≡ c * b % p
factor-same p c a b h = sym (mul-mod c a p) ∙ ap (λ (n : ℕ). c * n % p) h ∙ mul-mod c b p

value-residues : (p x : ℕ) (a : List ℕ) → value p x (residues p a) ≡ value p x a
value-residues p x [] = refl
value-residues p x (c ∷ a) =
    mod-add-mod c p (x * packed x (residues p a))
    ∙ sym (add-mod-mod c (x * packed x (residues p a)) p)
    ∙ ap (λ (n : ℕ). (c + n) % p) (factor-same p x (packed x (residues p a)) (packed x a) (value-residues p x a))
    ∙ add-mod-mod c (x * packed x a) p

pub value_same : (p x : ℕ) (a b : List ℕ) → Same p a b → value p x a ≡ value p x b
value_same p x a b h =
    let each : (j : ℕ) → coefficient (residues p a) j ≡ coefficient (residues p b) j = λ j. coefficient-residues p a j ∙ h.each j ∙ sym (coefficient-residues p b j) in
    sym (value-residues p x a) ∙ ap (λ (n : ℕ). n % p) (packed-agree x (residues p a) (residues p b) each) ∙ value-residues p x b

pub value-multiple : (p x : ℕ) (q g : List ℕ) → value p x g ≡ 0 → value p x (product q g) ≡ 0
value-multiple p x q g h = rw (packed-product x q g, ← mul-mod (packed x q) (packed x g) p, h, mul-zero, zero-mod)

value-multiplied : (p x : ℕ) (g q : List ℕ) → value p x g ≡ 0 → value p x (product g q) ≡ 0
value-multiplied p x g q h =
    let turned : packed x (product g q) ≡ packed x (product q g) = packed-product x g q ∙ mul_comm (packed x g) (packed x q) ∙ sym (packed-product x q g) in
    rw turned (value-multiple p x q g h)

packed-upto : (x : ℕ) (f : ℕ → ℕ) (n : ℕ) → packed x (upto n f) ≡ sum_to n (λ i. f i * x ^ i)
packed-upto x f zero = refl
packed-upto x f (suc n) = packed-snoc x (upto n f) (f n) ∙ rw (length-upto, packed-upto x f n)

pub packed-sum-of : (x : ℕ) (a : List ℕ) → packed x a ≡ sum_to (length a) (λ i. coefficient a i * x ^ i)
packed-sum-of x a = rw (coefficients a) at (packed-upto x (coefficient a) (length a))

-- ---- roots

pub linear-below : (p c : ℕ) → 2 ≤ p → Below p (linear p c)
linear-below p c h zero = minus-below p 0 c (omega arith)
linear-below p c h (suc zero) = h
linear-below p c h (suc (suc j)) = omega arith

linear-vanishes : (p c : ℕ) → 2 ≤ p → value p c (linear p c) ≡ 0
linear-vanishes p c h =
    let there : minus p 0 c + c * (1 + c * 0) ≡ minus p 0 c + c = omega arith in
    rw there (minus_is p 0 c (omega arith) ∙ zero-mod p)

pub length-with_roots : (p : ℕ) (f : ℕ → ℕ) (m : ℕ) → length (with_roots p f m) ≡ suc m
unfolding with_roots
length-with_roots p f zero = refl
length-with_roots p f (suc m) =
    let g = with_roots p f m in
    let l = linear p (f (suc m)) in
    length-residues p (product g l) ∙ length-product g l ∙ rw (length-with_roots p f m) (omega arith)

-- x^m and lower powers, times x and a number: x^(m + 1) stands once
product-top : (g : List ℕ) (m c : ℕ) → Monic m g → product_at g (c ∷ 1 ∷ []) (suc m) ≡ 1
product-top g m c h =
    let l = c ∷ 1 ∷ [] in
    let f : ℕ → ℕ = λ i. coefficient g i * coefficient l (suc m - i) in
    let lower : sum_to m f ≡ 0 = sum-zero m f (λ i n. rw (coefficient-past l (suc m - i) (omega arith), mul-zero)) in
    let here : suc m - m ≡ 1 = omega arith in
    rw (lower, here, h.top, coefficient-past g (suc m) (omega (arith, h.size))) (omega arith)

pub roots-monic : (p : ℕ) (f : ℕ → ℕ) (m : ℕ) → 2 ≤ p → Monic m (with_roots p f m)
unfolding with_roots
roots-monic p f zero h = record { size = refl; top = refl }
roots-monic p f (suc m) h =
    let g = with_roots p f m in
    let l = linear p (f (suc m)) in
    record {
      size = length-with_roots p f (suc m);
      top = coefficient-residues p (product g l) (suc m)
          ∙ rw (coefficient-product g l (suc m), product-top g m (minus p 0 (f (suc m))) (roots-monic p f m h)) (mod-eq_of_lt h);
    }

pub roots-below : (p : ℕ) (f : ℕ → ℕ) (m : ℕ) → 2 ≤ p → Below p (with_roots p f m)
unfolding with_roots
roots-below p f zero h zero = h
roots-below p f zero h (suc j) = omega arith
roots-below p f (suc m) h j =
    let all = product (with_roots p f m) (linear p (f (suc m))) in
    rw (coefficient-residues p all j) (mod-lt (coefficient all j) (omega arith))

pub roots-vanish : (p : ℕ) (f : ℕ → ℕ) (m j : ℕ) → 2 ≤ p → 1 ≤ j → j ≤ m → value p (f j) (with_roots p f m) ≡ 0
unfolding with_roots
roots-vanish p f zero j h low high = absurd (omega arith)
roots-vanish p f (suc m) j h low high =
    let g = with_roots p f m in
    let l = linear p (f (suc m)) in
    value-residues p (f j) (product g l)
    ∙ ⊎_elim
    (λ e. rw e (value-multiple p (f (suc m)) g l (linear-vanishes p (f (suc m)) h)))
    (λ n. value-multiplied p (f j) g l (roots-vanish p f m j h low (omega arith)))
    (eq-or-lt_of_le high)
