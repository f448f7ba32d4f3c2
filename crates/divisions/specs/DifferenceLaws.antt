-- Laws of lists that differ in some places. Assumes nothing.
--     differences-turned      lists that stand the other way round differ in as many places
--     differences-set         to put one number changes one place at most
--     differences-exchanged   to exchange two changes two at most
--     below_set               a list below c stays so where what is put is below c
--     set_other, exchanged-other
--                             where another number is put, or two different ones are exchanged, it is another list
use Rattle.std.specs.Prelude.{ℕ, zero, suc, ◌+◌, ◌-◌, ◌≤◌, ◌<◌, ◌≡◌, refl, Bool, true, false, List, [], ◌∷◌, reverse, eqb, length, set}
use Rattle.std.proofs.Common.{sym, ap, ◌∙◌, arith, length-set, get_or-set_same, get_or-set_other, eq-eqb, eqb-true}
use Rattle.polynomials.specs.Indices.{pick, sum_to}
use Rattle.polynomials.specs.IndexLaws.{sum_same, sum-window}
use Rattle.polynomials.specs.Lists.{coefficient, Below}
use Rattle.divisions.specs.Differences.{unlike, differences, exchanged}
use Rattle.divisions.specs.ReverseLaws.{coefficient-reverse}
use Rattle.divisions.specs.IndependenceLaws.{sum-add, sum-turned, sum-most, unlike-most}

alike : (a b : List ℕ) (i : ℕ) → coefficient a i ≡ coefficient b i → unlike a b i ≡ 0
alike a b i e = rw (eq-eqb (coefficient a i) (coefficient b i) e)

unlike-one : (a b : List ℕ) (i : ℕ) → unlike a b i ≤ 1
unlike-one a b i = unlike-most 0 1 (coefficient a i) (coefficient b i) (λ e. absurd (omega arith))

pub differences-turned : (a b : List ℕ) → length a ≡ length b → sum_to (length a) (unlike (reverse a) (reverse b)) ≡ differences a b
differences-turned a b size =
    let n : ℕ = length a in
    sum_same n (unlike (reverse a) (reverse b)) (λ i. unlike a b (n - 1 - i)) (λ i l. rw (coefficient-reverse a i l, coefficient-reverse b i (rw (← size) l), ← size))
    ∙ sum-turned n (unlike a b)

-- a third list between them
differences-between : (a b c : List ℕ) → length a ≡ length b → differences a c ≤ differences a b + differences b c
differences-between a b c size =
    let most : differences a c ≤ sum_to (length a) (λ i. unlike a b i + unlike b c i) = sum-most (length a) (unlike a c) (λ i. unlike a b i + unlike b c i) (λ i l. at i (eqb (coefficient a i) (coefficient b i)) refl) in
    rw (← size) (rw (sum-add (length a) (unlike a b) (unlike b c)) at most)
  where
    at : (i : ℕ) (t : Bool) → eqb (coefficient a i) (coefficient b i) ≡ t → unlike a c i ≤ pick t 0 1 + unlike b c i
    at i true e = omega (arith, unlike-most (coefficient b i) (coefficient c i) (coefficient a i) (coefficient c i) (λ f. eqb-true (coefficient a i) (coefficient b i) e ∙ f))
    at i false e = omega (arith, unlike-one a c i)

pub differences-set : (xs : List ℕ) (i v : ℕ) → differences xs (set xs i v) ≤ 1
differences-set xs i v =
    let there : List ℕ = set xs i v in
    let kept : (j : ℕ) → (j ≡ i → ⊥) → unlike xs there j ≡ 0 = λ j other. alike xs there j (sym (get_or-set_other xs i j v 0 other)) in
    omega (arith, sum-window i (i + 1) 1 (unlike xs there) (unlike-one xs there) (λ j l. kept j (λ e. omega arith)) (λ j l. kept j (λ e. omega arith)) (length xs))

pub differences-exchanged : (xs : List ℕ) (i k : ℕ) → differences xs (exchanged xs i k) ≤ 2
differences-exchanged xs i k =
    let once : List ℕ = set xs i (coefficient xs k) in
    omega (arith, differences-between xs once (exchanged xs i k) (sym (length-set xs i (coefficient xs k))), differences-set xs i (coefficient xs k), differences-set once k (coefficient xs i))

pub below_set : (c : ℕ) (xs : List ℕ) (i v : ℕ) → v < c → Below c xs → Below c (set xs i v)
below_set c [] i v l h j = h j
below_set c (x ∷ xs) zero v l h zero = l
below_set c (x ∷ xs) zero v l h (suc j) = h (suc j)
below_set c (x ∷ xs) (suc i) v l h zero = h 0
below_set c (x ∷ xs) (suc i) v l h (suc j) = below_set c xs i v l (λ j. h (suc j)) j

pub set_other : (xs : List ℕ) (i v : ℕ) → i < length xs → (v ≡ coefficient xs i → ⊥) → xs ≡ set xs i v → ⊥
set_other xs i v inside other same = other (sym (ap (λ (l : List ℕ). coefficient l i) same ∙ get_or-set_same xs i v 0 inside))

pub exchanged-other : (xs : List ℕ) (i k : ℕ) → k < length xs → (coefficient xs i ≡ coefficient xs k → ⊥) → xs ≡ exchanged xs i k → ⊥
exchanged-other xs i k inside other same =
    other (sym (ap (λ (l : List ℕ). coefficient l k) same ∙ get_or-set_same (set xs i (coefficient xs k)) k (coefficient xs i) 0 (rw length-set inside)))
