-- Division of polynomials modulo p by the schoolbook. A list is a polynomial, the coefficient of x^0 first. Definitions only.
--     Same p a b           a and b are one polynomial modulo p: every coefficient of the one is that of the other, modulo p
--     Monic m g            g is x^m and lower powers
--     degree g             the highest power, m where g is monic
--     term c i             c x^i
--     less p a b           a - b modulo p, every coefficient of a taken in 0..p-1
--     cancelled p g i a    a step of the division: with c the coefficient of x^(m + i) in a, a less c x^i g
--     divided p g i a      the steps i - 1, .., 1, 0, from the highest power down
--     quotients p g i a    the c of these steps, that of x^0 first
--     quotient p g a       the quotient by g
--     remainder p g a      what is left of a below x^m
use Rattle.std.specs.Prelude.{ℕ, zero, suc, ◌+◌, ◌-◌, ◌%◌, ◌≡◌, List, [], ◌∷◌, ◌++◌, length, replicate}
use Rattle.polynomials.specs.Indices.{upto}
use Rattle.polynomials.specs.Lists.{coefficient, product}
use Rattle.polynomials.specs.Places.{minus}

pub record Same (p : ℕ) (a b : List ℕ) : Type 0 where
  pub each : (j : ℕ) → coefficient a j % p ≡ coefficient b j % p

pub record Monic (m : ℕ) (g : List ℕ) : Type 0 where
  pub size : length g ≡ suc m
  pub top : coefficient g m ≡ 1

abbrev pub degree : List ℕ → ℕ
degree g = length g - 1

abbrev pub term : ℕ → ℕ → List ℕ
term c i = replicate i 0 ++ (c ∷ [])

abbrev pub less : ℕ → List ℕ → List ℕ → List ℕ
less p a b = upto (length a) (λ j. minus p (coefficient a j) (coefficient b j))

abbrev pub cancelled : ℕ → List ℕ → ℕ → List ℕ → List ℕ
cancelled p g i a = less p a (product (term (coefficient a (degree g + i)) i) g)

unfoldable pub divided : ℕ → List ℕ → ℕ → List ℕ → List ℕ
divided p g zero a = a
divided p g (suc i) a = divided p g i (cancelled p g i a)

unfoldable pub quotients : ℕ → List ℕ → ℕ → List ℕ → List ℕ
quotients p g zero a = []
quotients p g (suc i) a = quotients p g i (cancelled p g i a) ++ (coefficient a (degree g + i) ∷ [])

abbrev pub quotient : ℕ → List ℕ → List ℕ → List ℕ
quotient p g a = quotients p g (length a - degree g) a

abbrev pub remainder : ℕ → List ℕ → List ℕ → List ℕ
remainder p g a = upto (degree g) (λ j. coefficient (divided p g (length a - degree g) a) j % p)
