-- Weights whose sums with the powers of some numbers are 0 modulo p, and no more of them than sums. Assumes nothing.
--     sum-add, sum-turned, sum-most
--                      sums: of sums; from the last term to the first; term by term no more
--     unlike-most      where a place that is alike makes another alike, the second counts no more among those that differ
--     Cancels p x      x is no factor of 0: if c x is 0 modulo p, c is
--     weighs p c i     1 where weight i is not 0 modulo p, and 0 where it is
--     count p n c      how many of the first n weights are not
--     minus-itself, sum-minus
--                      a number less itself; where two sums of weighted numbers are 0 modulo p, so is that of the differences of their weights
--     Independent p n x t
--                      of any weights of which at most t are not 0 modulo p, and whose sums with the powers 1, 2, .., t of the n numbers x are 0, all are
--     independent      so are numbers of which each cancels, and each difference of two
use Rattle.std.specs.Prelude.{ℕ, zero, suc, ◌+◌, ◌-◌, ◌*◌, ◌%◌, ◌^◌, ◌≤◌, ◌<◌, ◌≡◌, refl, Bool, true, false, eqb}
use Rattle.std.proofs.Common.{sym, ◌∙◌, ⊎_elim, not-suc-le-zero, le_of_suc-le-suc, eq-or-lt_of_le, mul-zero, mul_comm, zero-add, add-zero, add-mul, arith, eq-eqb, ne_eqb, eqb-true}
use Rattle.std.proofs.Math.Nat.{zero-mod, pow-succ', pow-zero, add-mod}
use Rattle.std.proofs.Math.Decide.{dec_lt}
use Rattle.std.proofs.lemmas.Bool.{eqb-false}
use Rattle.polynomials.specs.Indices.{pick, sum_to}
use Rattle.polynomials.specs.IndexLaws.{sum-front, sum_same, sum-fewer}
use Rattle.polynomials.specs.Places.{minus}
use Rattle.polynomials.specs.ReductionLaws.{mul-mod, minus_is, minus-only}
use Rattle.divisions.specs.CongruenceLaws.{cancel-add, add-congruent, weights-congruent}

-- ---- sums

pub sum-add : (n : ℕ) (f g : ℕ → ℕ) → sum_to n (λ i. f i + g i) ≡ sum_to n f + sum_to n g
sum-add zero f g = refl
sum-add (suc n) f g = omega (arith, sum-add n f g)

pub sum-turned : (n : ℕ) (f : ℕ → ℕ) → sum_to n (λ i. f (n - 1 - i)) ≡ sum_to n f
sum-turned zero f = refl
sum-turned (suc n) f =
    let last : suc n - 1 - 0 ≡ n = omega arith in
    let rest : sum_to n (λ i. f (suc n - 1 - suc i)) ≡ sum_to n (λ i. f (n - 1 - i)) = sum_same n (λ i. f (suc n - 1 - suc i)) (λ i. f (n - 1 - i)) (λ i l. let there : suc n - 1 - suc i ≡ n - 1 - i = omega arith in rw there) in
    sum-front n (λ i. f (suc n - 1 - i)) ∙ rw (last, rest, sum-turned n f) (omega arith)

pub sum-most : (n : ℕ) (f g : ℕ → ℕ) → ((i : ℕ) → i < n → f i ≤ g i) → sum_to n f ≤ sum_to n g
sum-most zero f g h = omega arith
sum-most (suc n) f g h = omega (arith, sum-most n f g (λ i l. h i (omega arith)), h n (omega arith))

-- and one term is less
sum_less : (n : ℕ) (f g : ℕ → ℕ) (k : ℕ) → k < n → f k < g k → ((i : ℕ) → i < n → f i ≤ g i) → sum_to n f < sum_to n g
sum_less zero f g k l less h = absurd (not-suc-le-zero l)
sum_less (suc n) f g k l less h =
    ⊎_elim
    (λ e. let last : f n < g n = rw e at less in omega (arith, sum-most n f g (λ i l. h i (omega arith))))
    (λ m. omega (arith, sum_less n f g k m less (λ i l. h i (omega arith)), h n (omega arith)))
    (eq-or-lt_of_le (le_of_suc-le-suc l))

term-most : (n : ℕ) (f : ℕ → ℕ) (i : ℕ) → i < n → f i ≤ sum_to n f
term-most n f i l = omega (arith, sum-fewer f (suc i) n l)

-- modulo p: of zeros, and of zeros but for one term
sum-none : (p n : ℕ) (f : ℕ → ℕ) → ((i : ℕ) → i < n → f i % p ≡ 0) → sum_to n f % p ≡ 0
sum-none p zero f h = zero-mod p
sum-none p (suc n) f h = rw (add-mod, sum-none p n f (λ i l. h i (omega arith)), h n (omega arith)) (zero-mod p)

sum_one : (p n : ℕ) (f : ℕ → ℕ) (k : ℕ) → k < n → ((i : ℕ) → i < n → (i ≡ k → ⊥) → f i % p ≡ 0) → sum_to n f % p ≡ f k % p
sum_one p zero f k l h = absurd (not-suc-le-zero l)
sum_one p (suc n) f k l h =
    ⊎_elim
    (λ e. rw e (add-congruent p (sum_to n f) 0 (f n) (f n) (sum-none p n f (λ i m. h i (omega arith) (λ same. omega arith)) ∙ sym (zero-mod p)) refl ∙ rw zero-add))
    (λ m. add-congruent p (sum_to n f) (f k) (f n) 0 (sum_one p n f k m (λ i m. h i (omega arith))) (h n (omega arith) (λ same. omega arith) ∙ sym (zero-mod p)) ∙ rw add-zero)
    (eq-or-lt_of_le (le_of_suc-le-suc l))

-- a number added to each of the x
sum-raised : (n d e : ℕ) (c x : ℕ → ℕ) → sum_to n (λ i. c i * (x i + d) * x i ^ e) ≡ sum_to n (λ i. c i * x i ^ suc e) + d * sum_to n (λ i. c i * x i ^ e)
sum-raised zero d e c x = omega arith
sum-raised (suc n) d e c x =
    let last : c n * (x n + d) * x n ^ e ≡ c n * x n ^ suc e + d * (c n * x n ^ e) = rw pow-succ' (omega arith) in
    omega (arith, sum-raised n d e c x)

-- ---- places that differ

pub unlike-most : (a b c d : ℕ) → (a ≡ b → c ≡ d) → pick (eqb c d) 0 1 ≤ pick (eqb a b) 0 1
unlike-most a b c d h = go (eqb a b) refl (eqb c d) refl
  where
    go : (t : Bool) → eqb a b ≡ t → (u : Bool) → eqb c d ≡ u → pick u 0 1 ≤ pick t 0 1
    go t e true f = omega arith
    go true e false f = absurd (eqb-false c d f (h (eqb-true a b e)))
    go false e false f = omega arith

-- ---- weights

abbrev pub Cancels : ℕ → ℕ → Type 0
Cancels p x = (c : ℕ) → c * x % p ≡ 0 → c % p ≡ 0

abbrev pub weighs : ℕ → (ℕ → ℕ) → ℕ → ℕ
weighs p c i = pick (eqb (c i % p) 0) 0 1

abbrev pub count : ℕ → ℕ → (ℕ → ℕ) → ℕ
count p n c = sum_to n (weighs p c)

abbrev pub Independent : ℕ → ℕ → (ℕ → ℕ) → ℕ → Type 0
Independent p n x t = (c : ℕ → ℕ) → count p n c ≤ t → ((j : ℕ) → 1 ≤ j → j ≤ t → sum_to n (λ i. c i * x i ^ j) % p ≡ 0) → (i : ℕ) → i < n → c i % p ≡ 0

pub minus-itself : (p u v : ℕ) → 0 < p → u ≡ v → minus p u v ≡ 0
minus-itself p u v h e = sym (minus-only p u v 0 h h (rw (zero-add, e)))

pub sum-minus : (p n : ℕ) (u v w : ℕ → ℕ) → 0 < p → sum_to n (λ i. u i * w i) % p ≡ 0 → sum_to n (λ i. v i * w i) % p ≡ 0 → sum_to n (λ i. minus p (u i) (v i) * w i) % p ≡ 0
sum-minus p n u v w h first second =
    let less : ℕ → ℕ = λ i. minus p (u i) (v i) in
    let x : ℕ = sum_to n (λ i. less i * w i) in
    let y : ℕ = sum_to n (λ i. v i * w i) in
    let parts : sum_to n (λ i. (less i + v i) * w i) ≡ x + y = sum_same n (λ i. (less i + v i) * w i) (λ i. less i * w i + v i * w i) (λ i l. add-mul (less i) (v i) (w i)) ∙ sum-add n (λ i. less i * w i) (λ i. v i * w i) in
    let sums : (x + y) % p ≡ 0 = rw (← parts) (weights-congruent p n (λ i. less i + v i) u w (λ i l. minus_is p (u i) (v i) h) ∙ first) in
    cancel-add p x 0 y h (sums ∙ rw (zero-add, second)) ∙ zero-mod p

-- a product is 0 modulo p where a factor is
factor-none : (p a b : ℕ) → a % p ≡ 0 → a * b % p ≡ 0
factor-none p a b h = rw (mul_comm a b, ← mul-mod b a p, h, mul-zero) (zero-mod p)

module _ (p n : ℕ) (c : ℕ → ℕ) where
  none-counted : count p n c ≤ 0 → (i : ℕ) → i < n → c i % p ≡ 0
  none-counted few i l = eqb-true (c i % p) 0 (go (eqb (c i % p) 0) (term-most n (weighs p c) i l))
    where
      go : (b : Bool) → pick b 0 1 ≤ count p n c → b ≡ true
      go true most = refl
      go false most = absurd (omega arith)

  module _ (d : ℕ → ℕ) (still : (i : ℕ) → c i % p ≡ 0 → d i % p ≡ 0) where
    count_less : (k : ℕ) → k < n → 0 < c k % p → d k % p ≡ 0 → count p n d < count p n c
    count_less k l before now =
        let was : weighs p c k ≡ 1 = rw (ne_eqb (c k % p) 0 (λ e. omega arith)) in
        let is : weighs p d k ≡ 0 = rw (eq-eqb (d k % p) 0 now) in
        sum_less n (weighs p d) (weighs p c) k l (omega arith) (λ i l. unlike-most (c i % p) 0 (d i % p) 0 (still i))

module _ (p n : ℕ) (x : ℕ → ℕ) (big : 1 < p) (each : (i : ℕ) → i < n → Cancels p (x i))
    (apart : (i k : ℕ) → i < n → k < n → (i ≡ k → ⊥) → Cancels p (x i + (p - x k % p))) where
  -- the weights times the differences from number k: one sum fewer, and weight k is gone
  abbrev lowered : ℕ → (ℕ → ℕ) → ℕ → ℕ
  lowered k c i = c i * (x i + (p - x k % p))

  lowered_none : (k : ℕ) (c : ℕ → ℕ) → lowered k c k % p ≡ 0
  lowered_none k c =
      let itself : (x k + (p - x k % p)) % p ≡ 0 = minus-itself p (x k) (x k) (omega arith) refl in
      rw (← mul-mod (c k) (x k + (p - x k % p)) p, itself, mul-zero) (zero-mod p)

  lowered-sum : (k : ℕ) (c : ℕ → ℕ) (j : ℕ) → sum_to n (λ i. c i * x i ^ suc j) % p ≡ 0 → sum_to n (λ i. c i * x i ^ j) % p ≡ 0 → sum_to n (λ i. lowered k c i * x i ^ j) % p ≡ 0
  lowered-sum k c j high low =
      let d : ℕ = p - x k % p in
      let lower : d * sum_to n (λ i. c i * x i ^ j) % p ≡ 0 = rw (mul_comm d) (factor-none p (sum_to n (λ i. c i * x i ^ j)) d low) in
      rw (sum-raised n d j c x, add-mod, high, lower) (zero-mod p)

  one_more : (t : ℕ) → Independent p n x t → Independent p n x (suc t)
  one_more t fewer c few zeros k l = go (dec_lt 0 (c k % p))
    where
      go : Dec (0 < c k % p) → c k % p ≡ 0
      go (no none) = omega arith
      go (yes some-here) =
          let less : count p n (lowered k c) < count p n c = count_less p n c (lowered k c) (λ i. factor-none p (c i) (x i + (p - x k % p))) k l some-here (lowered_none k c) in
          let all : (i : ℕ) → i < n → lowered k c i % p ≡ 0 = fewer (lowered k c) (omega arith) (λ j a b. lowered-sum k c j (zeros (suc j) (omega arith) (omega arith)) (zeros j a (omega arith))) in
          let alone : sum_to n (λ i. c i * x i ^ 1) % p ≡ c k * x k ^ 1 % p = sum_one p n (λ i. c i * x i ^ 1) k l (λ i m other. factor-none p (c i) (x i ^ 1) (apart i k m l other (c i) (all i m))) in
          let plain : x k ^ 1 ≡ x k = rw (pow-succ', pow-zero) (omega arith) in
          each k l (c k) (rw plain at (sym alone ∙ zeros 1 (omega arith) (omega arith)))

  pub independent : (t : ℕ) → Independent p n x t
  independent zero = λ c few zeros. none-counted p n c few
  independent (suc t) = one_more t (independent t)
