-- Residues of fields, and document 003's identity. Assumes nothing.
--     mul-mod                   a factor counts modulo p only
--     minus-below, minus_is     minus p u w is below p, and adding w to it gives u modulo p
--     minus-only                no other number does both
--     reduced-shifted           m_i = (u_i - q u_(i + 1)) mod p
--     reduced-last              the last m is the last u
--     reduced-divides           where p divides q, every m is the u
--     quotient-place            the quotient by p at place i is the quotient by p of what stands from place i on
--     quotient-under            p times it is no more than what stands there
--     shifted-quotient          document 003's algorithm 2: u_i from one division by p
--     reduced-most              packing the m gives no more than the number
--     reduced-turn, reduced-turn-most
--                               packing them from the highest place down: the turn from place i to the one below, which gives no more than the number
--     field-reduced             and its fields are the m
use Rattle.std.specs.Prelude.{ℕ, suc, ◌+◌, ◌-◌, ◌*◌, ◌/◌, ◌%◌, ◌^◌, ◌≤◌, ◌<◌, ◌≡◌, drop}
use Rattle.std.specs.Int.{◌∣◌}
use Rattle.std.proofs.Common.{zero-le, sym, ap, ◌∙◌, mod-lt, div-add-mod', suc-mul, pow-suc, div-lt_iff_lt-mul, mod-eq_of_lt, mul_comm, le_trans, lt_of_le_of_lt, arith}
use Rattle.std.proofs.Math.Nat.{mod-add-mod, mod-add-div, add-mul-mod_self_right, pow-succ', div-div-eq-div-mul, one-le-pow, mod-le, mod_def, mod-mod_of_dvd, mul-div-le}
use Rattle.std.proofs.Math.Decide.{dec_lt}
use Rattle.polynomials.specs.Indices.{upto}
use Rattle.polynomials.specs.Lists.{coefficient}
use Rattle.polynomials.specs.Places.{packed, field, fields, shifted, reduced, minus}
use Rattle.polynomials.specs.IndexLaws.{length-upto, upto-at, upto-past, upto-most}
use Rattle.polynomials.specs.PlaceLaws.{packed-most, packed-turn, packed-part, packed-fields-most, field-packed}

pub mul-mod : (a b p : ℕ) → a * (b % p) % p ≡ a * b % p
mul-mod a b p =
    sym (add-mul-mod_self_right (a * (b % p)) (a * (b / p)) p)
    ∙ ap (λ (n : ℕ). n % p) (omega (arith, ap (λ (n : ℕ). a * n) (div-add-mod' b p)))

pub minus-below : (p u w : ℕ) → 0 < p → minus p u w < p
minus-below p u w h = mod-lt (u + (p - w % p)) h

there_and_back : (p w x : ℕ) → 0 < p → (x + (p - w % p) + w) % p ≡ x % p
there_and_back p w x h =
    ap (λ (n : ℕ). n % p) (omega (arith, div-add-mod' w p, mod-lt w h, suc-mul (w / p) p)) ∙ add-mul-mod_self_right x (suc (w / p)) p

pub minus_is : (p u w : ℕ) → 0 < p → (minus p u w + w) % p ≡ u % p
minus_is p u w h = mod-add-mod (u + (p - w % p)) p w ∙ there_and_back p w u h

-- w taken from f + w, both known modulo p only
minus-sum : (p f w : ℕ) → 0 < p → minus p ((f + w) % p) w ≡ f % p
minus-sum p f w h = mod-add-mod (f + w) p (p - w % p) ∙ ap (λ (n : ℕ). n % p) (omega arith) ∙ there_and_back p w f h

pub minus-only : (p u w x : ℕ) → 0 < p → x < p → (x + w) % p ≡ u % p → x ≡ minus p u w
minus-only p u w x h l e =
    sym (mod-eq_of_lt l) ∙ sym (minus-sum p x w h) ∙ ap (λ (n : ℕ). minus p n w) e ∙ mod-add-mod u p (p - w % p)

pub reduced-shifted : (p q r i : ℕ) → 0 < p → reduced p q r i ≡ minus p (shifted p q r i) (q * shifted p q r (suc i))
reduced-shifted p q r i h =
    sym (
    rw (mul-mod q (r / q ^ suc i) p)
    (rw (pow-suc, ← div-div-eq-div-mul)
    (ap (λ (n : ℕ). minus p (n % p) (q * (r / q ^ i / q))) (sym (mod-add-div (r / q ^ i) q)) ∙ minus-sum p (r / q ^ i % q) (q * (r / q ^ i / q)) h))
    )

pub reduced-last : (p q r i : ℕ) → 0 < q → r < q ^ suc i → reduced p q r i ≡ shifted p q r i
reduced-last p q r i hq h = ap (λ (n : ℕ). n % p) (mod-eq_of_lt ((div-lt_iff_lt-mul (one-le-pow i q hq)).1 (rw pow-succ' at h)))

pub reduced-divides : (p q r i : ℕ) → p ∣ q → reduced p q r i ≡ shifted p q r i
reduced-divides p q r i h = mod-mod_of_dvd p (r / q ^ i) h

-- ---- one division for all places

pub quotient-place : (p q r i : ℕ) → r / p / q ^ i ≡ r / q ^ i / p
quotient-place p q r i = rw (div-div-eq-div-mul r p (q ^ i), mul_comm p (q ^ i), ← div-div-eq-div-mul)

pub quotient-under : (p q r i : ℕ) → p * (r / p / q ^ i) ≤ r / q ^ i
quotient-under p q r i = rw (quotient-place p q r i) (mul-div-le (r / q ^ i) p)

pub shifted-quotient : (p q r i : ℕ) → r / q ^ i - p * (r / p / q ^ i) ≡ shifted p q r i
shifted-quotient p q r i = rw (quotient-place p q r i) (sym (mod_def (r / q ^ i) p))

-- ---- the word of the m

pub reduced-most : (p q m r : ℕ) → 0 < q → packed q (upto m (reduced p q r)) ≤ r
reduced-most p q m r hq =
    le_trans (packed-most q (upto m (reduced p q r)) (fields q m r) lower) (packed-fields-most q hq m r)
  where
    at : (j : ℕ) → Dec (j < m) → coefficient (upto m (reduced p q r)) j ≤ coefficient (fields q m r) j
    at j (yes h) = rw (upto-at m (reduced p q r) j h, upto-at m (field q r) j h) (mod-le (field q r j) p)
    at j (no h) = rw (upto-past m (reduced p q r) j (omega arith)) zero-le

    lower : (j : ℕ) → coefficient (upto m (reduced p q r)) j ≤ coefficient (fields q m r) j
    lower j = at j (dec_lt j m)

module _ (p q m r i w : ℕ) where
  pub reduced-turn : 0 < i → i ≤ m → w ≡ packed q (drop i (upto m (reduced p q r))) → w * q + reduced p q r (i - 1) ≡ packed q (drop (i - 1) (upto m (reduced p q r)))
  reduced-turn above top e =
      rw (← upto-at m (reduced p q r) (i - 1) (omega arith)) (packed-turn q (upto m (reduced p q r)) i w above (rw length-upto top) e)

  pub reduced-turn-most : 0 < q → 0 < i → i ≤ m → w ≡ packed q (drop i (upto m (reduced p q r))) → w * q + reduced p q r (i - 1) ≤ r
  reduced-turn-most hq above top e = rw (reduced-turn above top e) (le_trans (packed-part q hq (upto m (reduced p q r)) (i - 1)) (reduced-most p q m r hq))

pub field-reduced : (p q m r i : ℕ) → 0 < q → i < m → field q (packed q (upto m (reduced p q r))) i ≡ reduced p q r i
field-reduced p q m r i hq h =
    field-packed q (upto m (reduced p q r))
    (λ j. lt_of_le_of_lt (le_trans (upto-most m (reduced p q r) j) (mod-le (field q r j) p)) (mod-lt (r / q ^ j) hq)) i
    ∙ upto-at m (reduced p q r) i h
