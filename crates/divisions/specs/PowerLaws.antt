-- Laws of the powers of a number modulo p, and of a table of one whole round of them. Assumes nothing.
--     powers-at        entry i of a table of the powers of x is x^i modulo p
--     powers-cycle     after as many as the table has, they come back to 1
--     power-again      where x^n is 1 modulo p, an exponent counts modulo n only
--     power-cancels    and a power is no factor of 0: if c x^e is 0 modulo p, c is
use Rattle.std.specs.Prelude.{ℕ, zero, suc, ◌+◌, ◌*◌, ◌/◌, ◌%◌, ◌^◌, ◌<◌, ◌≡◌, Bool, true, false, ◌&&◌, List, [], ◌∷◌, T, eqb, length}
use Rattle.std.proofs.Common.{sym, ◌∙◌, add-zero, zero-add, add-suc, suc-add, mul-zero, mul-one, mul-suc, suc-mul, mod-eq_of_lt, not-suc-le-zero, le_of_suc-le-suc, arith, eqb→eq, pow-add}
use Rattle.std.proofs.Math.Nat.{zero-mod, mod-add-div, pow-zero, pow-succ'}
use Rattle.polynomials.specs.Lists.{coefficient}
use Rattle.polynomials.specs.ReductionLaws.{mul-mod}
use Rattle.divisions.specs.Powers.{runs, all_powers}

both : (a b : Bool) → T (a && b) → T a × T b
both true b t = (tt, t)
both false b t = absurd t

-- a table that starts with x^e: its first is that, and what follows starts with x^(e + 1)
runs-first : (p x e y : ℕ) (ys : List ℕ) → T (runs p x (x ^ e % p) (y ∷ ys)) → (y ≡ x ^ e % p) × T (runs p x (x ^ suc e % p) ys)
runs-first p x e y ys t =
    let parts = both (eqb y (x ^ e % p)) (runs p x (x * y % p) ys) t in
    let here : y ≡ x ^ e % p = eqb→eq y (x ^ e % p) parts.0 in
    let next : x * y % p ≡ x ^ suc e % p = rw (here, mul-mod x (x ^ e) p, pow-succ') in
    (here, rw next at parts.1)

runs-at : (p x e : ℕ) (xs : List ℕ) → T (runs p x (x ^ e % p) xs) → (i : ℕ) → i < length xs → coefficient xs i ≡ x ^ (e + i) % p
runs-at p x e [] t i h = absurd (not-suc-le-zero h)
runs-at p x e (y ∷ ys) t zero h = rw add-zero (runs-first p x e y ys t).0
runs-at p x e (y ∷ ys) t (suc i) h = rw (add-suc, ← suc-add) (runs-at p x (suc e) ys (runs-first p x e y ys t).1 i (le_of_suc-le-suc h))

runs-end : (p x e : ℕ) (xs : List ℕ) → T (runs p x (x ^ e % p) xs) → x ^ (e + length xs) % p ≡ 1
runs-end p x e [] t = rw add-zero (eqb→eq (x ^ e % p) 1 t)
runs-end p x e (y ∷ ys) t = rw (add-suc, ← suc-add) (runs-end p x (suc e) ys (runs-first p x e y ys t).1)

-- 1 is x^0
from_one : (p x : ℕ) (xs : List ℕ) → 1 < p → T (all_powers p x xs) → T (runs p x (x ^ 0 % p) xs)
from_one p x xs h t = rw (pow-zero, mod-eq_of_lt h) t

pub powers-at : (p x : ℕ) (xs : List ℕ) → 1 < p → T (all_powers p x xs) → (i : ℕ) → i < length xs → coefficient xs i ≡ x ^ i % p
powers-at p x xs h t i l = rw zero-add at (runs-at p x 0 xs (from_one p x xs h t) i l)

pub powers-cycle : (p x : ℕ) (xs : List ℕ) → 1 < p → T (all_powers p x xs) → x ^ length xs % p ≡ 1
powers-cycle p x xs h t = rw zero-add at (runs-end p x 0 xs (from_one p x xs h t))

-- ---- whole rounds

times-one : (p c u : ℕ) → u % p ≡ 1 → c * u % p ≡ c % p
times-one p c u h = rw (← mul-mod c u p, h, mul-one)

rounds : (p x n k : ℕ) → 1 < p → x ^ n % p ≡ 1 → x ^ (n * k) % p ≡ 1
rounds p x n zero h e = rw (mul-zero, pow-zero) (mod-eq_of_lt h)
rounds p x n (suc k) h e = rw (mul-suc, pow-add) (times-one p (x ^ (n * k)) (x ^ n) e ∙ rounds p x n k h e)

pub power-again : (p x n e : ℕ) → 1 < p → x ^ n % p ≡ 1 → x ^ (e % n) % p ≡ x ^ e % p
power-again p x n e h o =
    sym (times-one p (x ^ (e % n)) (x ^ (n * (e / n))) (rounds p x n (e / n) h o))
    ∙ rw (← pow-add, mod-add-div)

pub power-cancels : (p x n c e : ℕ) → 1 < p → 0 < n → x ^ n % p ≡ 1 → c * x ^ e % p ≡ 0 → c % p ≡ 0
power-cancels p x zero c e h hn o z = absurd (omega arith)
power-cancels p x (suc k) c e h hn o z =
    let round : c * x ^ (suc k * e) ≡ x ^ (k * e) * (c * x ^ e) = rw (suc-mul k e, pow-add) (omega arith) in
    sym (times-one p c (x ^ (suc k * e)) (rounds p x (suc k) e h o)) ∙ rw (round, ← mul-mod (x ^ (k * e)) (c * x ^ e) p, z, mul-zero, zero-mod)
