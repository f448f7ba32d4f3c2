-- "Product" of two lists of 0 to 4,096 coefficients.
--     factors_cause m n              9 Shape: one of the lists, of m and n coefficients, has more than 4,096
--     factor_checks s a b len        the setting's checks, 9, 8, 10: a list of len elements is lent for the la + lb - 1 coefficients, or none
--     product_checks s a b len       these, then 18
--     product-gives                 the numbers that these can give, and no other
--     product_residue p a b j        that coefficient: the sum of a_i b_(j-i), modulo p
--     Multiplies s a b old r after  the promise of product: the coefficients of the product modulo p
--     product-once                  it allows one answer and one list only
use Rattle.std.specs.Prelude.{ℕ, ◌%◌, ◌≡◌, Bool, ◌||◌, List, [], ◌∷◌, ◌++◌, ltb, length, Result}
use Rattle.polynomials.specs.Lists.{product_length, product_at, product, residues}
use Rattle.settings.specs.Limits.{longest_factor}
use Rattle.settings.specs.Answers.{Verdict, refuse, ◌and_then◌, Given}
use Rattle.settings.specs.AnswerLaws.{given-check, given-then}
use Rattle.settings.specs.SharedAnswers.{short_cause, Writes, writes-once}
use Rattle.settings.specs.Settings.{setting_checks, setting_numbers, setting-gives}
use Rattle.settings.specs.Coefficients.{coefficients_check, coefficients-gives}
use Rattle.packed.specs.Overflow.{overflow_cause}
use Rattle.settings.specs.declared.setting.Setting.{Setting}
use Rattle.settings.specs.declared.refusals.Refusal.{Refusal}

abbrev pub factors_cause : ℕ → ℕ → Bool
factors_cause m n = ltb longest_factor m || ltb longest_factor n

unfoldable pub factor_checks : Setting → List ℕ → List ℕ → ℕ → Verdict
factor_checks s a b len =
    setting_checks s
    and_then refuse (factors_cause (length a) (length b)) 9 0
    and_then coefficients_check s.p a b
    and_then refuse (short_cause (product_length (length a) (length b)) len) 10 0

unfoldable pub product_checks : Setting → List ℕ → List ℕ → ℕ → Verdict
product_checks s a b len = factor_checks s a b len and_then refuse (overflow_cause s a b) 18 0

pub product-gives : (s : Setting) (a b : List ℕ) (len : ℕ) → Given (setting_numbers ++ (9 ∷ 8 ∷ 10 ∷ 18 ∷ [])) (product_checks s a b len)
unfolding product_checks factor_checks
product-gives s a b len =
    given-then
    (given-then (setting-gives s)
    (given-then (given-check (factors_cause (length a) (length b)) 9 0)
    (given-then (coefficients-gives s.p a b) (given-check (short_cause (product_length (length a) (length b)) len) 10 0))))
    (given-check (overflow_cause s a b) 18 0)

abbrev pub product_residue : ℕ → List ℕ → List ℕ → ℕ → ℕ
product_residue p a b j = product_at a b j % p

abbrev pub Multiplies : Setting → List ℕ → List ℕ → List ℕ → Result ℕ Refusal → List ℕ → Type 0
Multiplies s a b old r after = Writes (product_checks s a b (length old)) (residues s.p (product a b)) old r after

pub product-once : (s : Setting) (a b old : List ℕ) (r u : Result ℕ Refusal) (x y : List ℕ) → Multiplies s a b old r x → Multiplies s a b old u y → (r ≡ u) × (x ≡ y)
product-once s a b old = writes-once (product_checks s a b (length old)) (residues s.p (product a b)) old
