-- A correction table's entries, in any base. Assumes nothing.
--     entry_at         entry u + p v is (u - q v) mod p
--     entry-base       q counts modulo p only
--     entry-sum        it is u plus p - q times v, modulo p: nothing is taken away
--     Stands p q j u x
--                      u and x are entry j's: j modulo p, and the entry itself
--     stands-first     both are 0 at entry 0
--     stands-below     both are below p
--     stands-beside    the entry that follows is one more modulo p, where u + 1 is below p
--     stands-anew      and p - q more besides, where u + 1 is p and u begins anew at 0
--     table-place      u + p v, both below p, is a place of the table
--     looked-up-field  of any entries below the base: field i of the number of all that is looked up is what stands at u_i + p u_(i + 1)
--     looked-up        among a table's own entries: what is looked up for place i of a number is m_i
--     looked-up-word   so the number of all that is looked up is that of the m
use Rattle.std.specs.Prelude.{ℕ, suc, ◌+◌, ◌-◌, ◌*◌, ◌/◌, ◌%◌, ◌≤◌, ◌<◌, ◌≡◌, List}
use Rattle.std.proofs.Common.{sym, ap, ◌∙◌, zero-add, mul-zero, mul_comm, mul-le-mul_left, mul-suc, add-mul, mod-lt, mod-eq_of_lt, lt_of_le_of_lt, arith}
use Rattle.std.proofs.Math.Path.{fun_ext}
use Rattle.std.proofs.Math.Nat.{zero-mod, zero-div, sub-zero, mod_self, add-mod_right, mod-add-div, mod-add-mod, div-eq_of_lt, add-mul-div_left, add-mul-mod_self_left}
use Rattle.polynomials.specs.Indices.{upto}
use Rattle.polynomials.specs.Lists.{Below}
use Rattle.polynomials.specs.Places.{packed, field, shifted, reduced, minus, entry, looked_up}
use Rattle.polynomials.specs.IndexLaws.{upto-at, upto-most}
use Rattle.polynomials.specs.PlaceLaws.{field-packed}
use Rattle.polynomials.specs.ReductionLaws.{mul-mod, minus-only, reduced-shifted}

pub entry_at : (p q u v : ℕ) → u < p → entry p q (u + p * v) ≡ minus p u (q * v)
entry_at p q u v h =
    let low : (u + p * v) % p ≡ u = add-mul-mod_self_left u p v ∙ mod-eq_of_lt h in
    let high : (u + p * v) / p ≡ v = add-mul-div_left u v (omega arith) ∙ rw (div-eq_of_lt h) (zero-add v) in
    rw (low, high)

pub entry-base : (p q j : ℕ) → entry p (q % p) j ≡ entry p q j
entry-base p q j =
    let same : q % p * (j / p) % p ≡ q * (j / p) % p = rw (mul_comm (q % p) (j / p), mul-mod (j / p) q p, mul_comm (j / p) q) in
    ap (λ (w : ℕ). (j % p + (p - w)) % p) same

pub entry-sum : (p q u v : ℕ) → u < p → q ≤ p → entry p q (u + p * v) ≡ (u + (p - q) * v) % p
entry-sum p q u v h l =
    let whole : (p - q) * v + q * v ≡ p * v = sym (add-mul (p - q) q v) ∙ ap (λ (n : ℕ). n * v) (omega arith) in
    let back : ((u + (p - q) * v) % p + q * v) % p ≡ u % p = mod-add-mod (u + (p - q) * v) p (q * v) ∙ ap (λ (n : ℕ). n % p) (omega arith) ∙ add-mul-mod_self_left u p v in
    entry_at p q u v h ∙ sym (minus-only p u (q * v) ((u + (p - q) * v) % p) (omega arith) (mod-lt _ (omega arith)) back)

-- ---- one entry after another

pub record Stands (p q j u x : ℕ) : Type 0 where
  pub low : u ≡ j % p
  pub value : x ≡ entry p q j

pub stands-first : {p q : ℕ} → Stands p q 0 0 0
stands-first {p} = record { low = sym (zero-mod p); value = sym (simp (zero-mod, zero-div, mul-zero, sub-zero, zero-add, mod_self)) }

pub stands-below : {p q j u x : ℕ} → 0 < p → Stands p q j u x → (u < p) × (x < p)
stands-below {j = j} h s = (rw s.low (mod-lt j h), rw s.value (mod-lt _ h))

module _ {p q j u x : ℕ} (h : 0 < p) (l : q ≤ p) (s : Stands p q j u x) where
  -- with v = floor(j / p), j is u + p v
  place : u + p * (j / p) ≡ j
  place = rw s.low (mod-add-div j p)

  -- so entry j is a sum, to which more can be added
  sum : x ≡ (u + (p - q) * (j / p)) % p
  sum = s.value ∙ ap (entry p q) (sym place) ∙ entry-sum p q u (j / p) (stands-below h s).0 l

  pub stands-beside : u + 1 < p → Stands p q (j + 1) (u + 1) ((x + 1) % p)
  stands-beside more =
      let next : j + 1 ≡ u + 1 + p * (j / p) = omega (arith, place) in
      record {
        low = rw next (sym (add-mul-mod_self_left (u + 1) p (j / p) ∙ mod-eq_of_lt more));
        value = rw (next, sum, mod-add-mod (u + (p - q) * (j / p)) p 1) (sym (entry-sum p q (u + 1) (j / p) more l ∙ ap (λ (n : ℕ). n % p) (omega arith)));
      }

  pub stands-anew : u + 1 ≡ p → Stands p q (j + 1) 0 (((x + 1) % p + (p - q)) % p)
  stands-anew end =
      let v = j / p in
      let next : j + 1 ≡ 0 + p * suc v = omega (arith, place, mul-suc p v) in
      let regrouped : x + 1 + (p - q) ≡ x + (1 + (p - q)) = omega arith in
      let round : u + (p - q) * v + (1 + (p - q)) ≡ 0 + (p - q) * suc v + p = omega (arith, mul-suc (p - q) v) in
      record {
        low = rw next (sym (add-mul-mod_self_left 0 p (suc v) ∙ zero-mod p));
        value = rw (next, mod-add-mod (x + 1) p (p - q), regrouped, sum, mod-add-mod (u + (p - q) * v) p (1 + (p - q)), round, add-mod_right) (sym (entry-sum p q 0 (suc v) h l));
      }

pub table-place : (p u v : ℕ) → u < p → v < p → u + p * v < p * p
table-place p u v hu hv = omega (arith, mul-le-mul_left p hv, mul-suc p v)

pub looked-up-field : (p q : ℕ) (es : List ℕ) (m r i : ℕ) → Below q es → i < m → field q (packed q (upto m (looked_up p q es r))) i ≡ looked_up p q es r i
looked-up-field p q es m r i h l =
    field-packed q (upto m (looked_up p q es r)) (λ j. lt_of_le_of_lt (upto-most m (looked_up p q es r) j) (h (shifted p q r j + p * shifted p q r (suc j)))) i
    ∙ upto-at m (looked_up p q es r) i l

pub looked-up : (p q r i : ℕ) → 0 < p → looked_up p q (upto (p * p) (entry p q)) r i ≡ reduced p q r i
looked-up p q r i h =
    let u = shifted p q r in
    upto-at (p * p) (entry p q) (u i + p * u (suc i)) (table-place p (u i) (u (suc i)) (mod-lt _ h) (mod-lt _ h))
    ∙ entry_at p q (u i) (u (suc i)) (mod-lt _ h)
    ∙ sym (reduced-shifted p q r i h)

pub looked-up-word : (p q m r : ℕ) → 0 < p → packed q (upto m (looked_up p q (upto (p * p) (entry p q)) r)) ≡ packed q (upto m (reduced p q r))
looked-up-word p q m r h = ap (λ (f : ℕ → ℕ). packed q (upto m f)) (fun_ext (λ i. looked-up p q r i h))
