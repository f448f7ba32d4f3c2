-- The operations on doubles that are not negative, each as `round` of a fraction, by any fractions that the operands equal. Assumes nothing.
--     parts                   a value that is not negative, taken apart
--     mul-round, div-round, add-round, sub-round
--                             the result is the exact one, rounded once
--     lt-values               two whole numbers are in order as doubles exactly where they are as numbers
--     same_test               two tests that pass together are equal
use Rattle.std.specs.Prelude.{ℕ, ◌+◌, ◌-◌, ◌*◌, ◌<◌, ◌≡◌, refl, Bool, ℤ, eqb, Float}
use Rattle.std.proofs.Common.{sym, ap, ◌∙◌, true≢false, mul-pos, lt_of_mul-lt-mul_right, zero-lt-suc, arith, eqb→eq}
use Rattle.std.proofs.Math.Bool.{true, false}
use Rattle.std.proofs.Math.Nat.{mul-lt-mul_of_pos_right}
use borrow.Author.Tests.{lt-ltb, ltb-true}
use Rattle.std.proofs.Math.Arith.{le→nltb}
use Rattle.std.proofs.Math.Dec.{ltb, not_T}
use Rattle.std.specs.Float.{nan, inf, fin, Format}
use Rattle.std.specs.Float.Ieee.{up, down, round, sum, add, sub, mul, div, lt}
use Rattle.std.specs.Float.Ieee.Fits.{down_pos}
use Rattle.std.specs.Float.Ieee.Bits.{cond_no}
use Rattle.std.specs.Float.Ieee.Exact.{HasValue}
use Rattle.std.specs.Float.Ieee.Positive.{num, den, den_pos, value→cross}
use Rattle.std.specs.Float.Ieee.Scale.{round_same}

pub parts : (x : Float) (a c : ℕ) → HasValue x false a c → (m : ℕ) × (e : ℤ) × (x ≡ fin false m e)
parts nan a c h = elim h [ ]
parts (inf _) a c h = elim h [ ]
parts (fin true m e) a c h = absurd (true≢false h.0)
parts (fin false m e) a c h = (m, e, refl)

pub same_test : (a b : Bool) → (a ≡ true → b ≡ true) → (b ≡ true → a ≡ true) → a ≡ b
same_test true b p q = sym (p refl)
same_test false true p q = q refl
same_test false false p q = refl

pub mul-round : (f : Format) (x y : Float) (a c b d : ℕ) → 0 < c → 0 < d → HasValue x false a c → HasValue y false b d
    → mul f x y ≡ round f false (a * b) (c * d)
unfolding mul
mul-round f x y a c b d C D h k =
    let is : mul f x y ≡ round f false (num x * num y) (den x * den y) = rw ((parts x a c h).2, (parts y b d k).2) in
    is ∙ round_same f false (num x * num y) (den x * den y) (a * b) (c * d) (mul-pos (den_pos x) (den_pos y)) (mul-pos C D)
    (omega (arith, ap (λ z. z * (num y * d)) (value→cross x a c h), ap (λ z. z * (a * den x)) (value→cross y b d k)))

pub div-round : (f : Format) (x y : Float) (a b : ℕ) → 0 < b → HasValue x false a 1 → HasValue y false b 1 → div f x y ≡ round f false a b
unfolding div
div-round f nan y a b B h k = elim h [ ]
div-round f (inf _) y a b B h k = elim h [ ]
div-round f (fin true m e) y a b B h k = absurd (true≢false h.0)
div-round f (fin false m e) nan a b B h k = elim k [ ]
div-round f (fin false m e) (inf _) a b B h k = elim k [ ]
div-round f (fin false m e) (fin true n g) a b B h k = absurd (true≢false k.0)
div-round f (fin false m e) (fin false n g) a b B h k =
    let above = mul-pos B (down_pos g) in
    cond_no (eqb n 0) _ _ (not_T (eqb n 0) (λ t. omega (arith, ap (λ z. z * up g) (eqb→eq n 0 t))))
    ∙ round_same f false (m * up e * down g) (n * up g * down e) a b (mul-pos {m = n * up g} (omega arith) (down_pos e)) B
    (omega (arith, ap (λ z. z * (down g * b)) h.1, ap (λ z. z * (a * down e)) k.1))

-- ---- two whole numbers

module _ (x y : Float) (a b : ℕ) (h : HasValue x false a 1) (k : HasValue y false b 1) where
  num-x : num x ≡ a * den x
  num-x = omega (arith, value→cross x a 1 h)

  num-y : num y ≡ b * den y
  num-y = omega (arith, value→cross y b 1 k)

  dens : 0 < den x * den y
  dens = mul-pos (den_pos x) (den_pos y)

  pub add-round : (f : Format) → add f x y ≡ round f false (a + b) 1
  unfolding add
  add-round f =
      let is : add f x y ≡ round f false (num x * den y + num y * den x) (den x * den y) = rw ((parts x a 1 h).2, (parts y b 1 k).2) in
      is ∙ round_same f false (num x * den y + num y * den x) (den x * den y) (a + b) 1 dens (zero-lt-suc 0) (rw (num-x, num-y) (omega arith))

  pub sub-round : (f : Format) (c : ℕ) → a ≡ c + b → sub f x y ≡ round f false c 1
  unfolding sub
  sub-round f c e =
      let is : sub f x y ≡ sum f false (num x * den y) true (num y * den x) (den x * den y) = rw ((parts x a 1 h).2, (parts y b 1 k).2) in
      let l : num x * den y ≡ c * (den x * den y) + num y * den x = rw (num-x, num-y, e) (omega arith) in
      is ∙ cond_no (ltb (num x * den y) (num y * den x)) _ _ (le→nltb (num x * den y) (num y * den x) (omega arith))
      ∙ round_same f false (num x * den y - num y * den x) (den x * den y) c 1 dens (zero-lt-suc 0) (omega arith)

  pub lt-values : lt x y ≡ ltb a b
  unfolding lt
  lt-values =
      let is : lt x y ≡ ltb (num x * den y) (num y * den x) = rw ((parts x a 1 h).2, (parts y b 1 k).2) in
      let l : num x * den y ≡ a * (den x * den y) = rw num-x (omega arith) in
      let r : num y * den x ≡ b * (den x * den y) = rw num-y (omega arith) in
      is ∙ same_test (ltb (num x * den y) (num y * den x)) (ltb a b)
      (λ t. lt-ltb a b (lt_of_mul-lt-mul_right (den x * den y) (omega (arith, ltb-true))))
      (λ t. lt-ltb (num x * den y) (num y * den x) (omega (arith, mul-lt-mul_of_pos_right (ltb-true a b t) dens)))
