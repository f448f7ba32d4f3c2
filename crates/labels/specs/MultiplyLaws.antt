-- The library's product, of lists that are worked here: it refuses nothing. Assumes nothing.
--     product-words     how many words a product has
--     multiplied        what was asked for stands in the first places of its output
use Rattle.std.specs.Prelude.{ℕ, zero, suc, ◌+◌, ◌-◌, ◌≤◌, ◌<◌, ◌≡◌, refl, List, ◌++◌, length, take, drop, Result}
use Rattle.std.proofs.Common.{sym, ◌∙◌, arith, take_at, le-ltb}
use Rattle.polynomials.specs.Lists.{product_length, product, residues, Below}
use Rattle.polynomials.specs.ListLaws.{length-residues, length-product}
use Rattle.settings.specs.Answers.{fine}
use Rattle.settings.specs.Limits.{longest_factor}
use Rattle.settings.specs.Coefficients.{coefficients-check}
use Rattle.packed.specs.Products.{factor_checks, Multiplies}
use Rattle.packed.specs.ProductLaws.{product-fine}
use Rattle.labels.specs.Labels.{modulus, most_checks}
use Rattle.labels.specs.SettingLaws.{label_setting, label-setting-fine}
use Rattle.settings.specs.declared.refusals.Refusal.{Refusal}

product-size : (m n : ℕ) → 0 < m → 0 < n → product_length m n ≡ m + n - 1
product-size zero n hm hn = absurd (omega arith)
product-size (suc m) zero hm hn = absurd (omega arith)
product-size (suc m) (suc n) hm hn = refl

pub product-words : (a b : List ℕ) (n : ℕ) → 0 < length a → 0 < length b → n ≡ length a + length b - 1 → length (residues modulus (product a b)) ≡ n
product-words a b n some-a some-b size = length-residues modulus (product a b) ∙ length-product a b ∙ product-size (length a) (length b) some-a some-b ∙ sym size

module _ (a b : List ℕ) (a-below : Below modulus a) (b-below : Below modulus b) (a-few : length a ≤ most_checks + 1) (b-few : length b ≤ most_checks + 1) where
  factors-fine : (len : ℕ) → product_length (length a) (length b) ≤ len → factor_checks label_setting a b len ≡ fine
  unfolding factor_checks
  factors-fine len room =
      rw (
        label-setting-fine,
        le-ltb longest_factor (length a) (omega arith),
        le-ltb longest_factor (length b) (omega arith),
        (coefficients-check modulus a b (omega arith)).1 (a-below, b-below),
        le-ltb len (product_length (length a) (length b)) room,
      )

  pub multiplied : (n : ℕ) (old after : List ℕ) (r : Result ℕ Refusal) → 0 < length a → 0 < length b → n ≡ length a + length b - 1 → n ≤ length old → Multiplies label_setting a b old r after
      → take n after ≡ residues modulus (product a b)
  multiplied n old after r some-a some-b size room m =
      let long : product_length (length a) (length b) ≤ length old = rw (product-size (length a) (length b) some-a some-b, ← size) room in
      let written : after ≡ residues modulus (product a b) ++ drop (length (residues modulus (product a b))) old =
      rw (product-fine label_setting a b (length old) (factors-fine (length old) long)) at m.1 in
      rw written (take_at (residues modulus (product a b)) (drop (length (residues modulus (product a b))) old) n (product-words a b n some-a some-b size))
