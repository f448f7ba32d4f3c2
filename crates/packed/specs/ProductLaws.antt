-- What passing the checks of product says, and what follows from its promise. Assumes nothing.
--     Factors s a b len     what holds where nothing is refused up to 10
--     factors-checked       so it is
--     product-refused       what is refused up to 10 is what product refuses
--     product-fine          and where nothing is, 18 does not hold either: product refuses nothing
--     product-some          a product that has a coefficient has two factors that do
--     product-written       a list filled with the sums modulo p is what product promises
--     product-checks-same   accepted settings with one p refuse the same lists, with the same number and place
--     product-by-modulus    so two accepted settings with one p give one answer and one list
use Rattle.std.specs.Prelude.{ℕ, zero, suc, ◌+◌, ◌-◌, ◌≤◌, ◌<◌, ◌≡◌, refl, List, ltb, length, Result, Ok}
use Rattle.std.proofs.Common.{sym, ap, ◌∙◌, arith, ltb-false}
use Rattle.std.proofs.Math.Path.{fun_ext}
use Rattle.polynomials.specs.Tests.{neither}
use Rattle.polynomials.specs.Indices.{filled}
use Rattle.polynomials.specs.Lists.{coefficient, product_length, product, residues, Below}
use Rattle.polynomials.specs.ListLaws.{length-residues, length-product, coefficient-residues, coefficient-product}
use Rattle.settings.specs.Limits.{longest_factor}
use Rattle.settings.specs.Answers.{Verdict, answered, fine, refused}
use Rattle.settings.specs.AnswerLaws.{passed, passed_first, passed-last}
use Rattle.settings.specs.SharedAnswers.{short_cause, writes-once, writes-list}
use Rattle.settings.specs.Settings.{setting_checks}
use Rattle.settings.specs.Coefficients.{coefficients_check, coefficients-check}
use Rattle.settings.specs.Bounds.{Bounds, bounds}
use Rattle.packed.specs.OverflowLaws.{never-overflows}
use Rattle.packed.specs.Products.{factors_cause, factor_checks, product_checks, Multiplies, product_residue}
use Rattle.settings.specs.declared.setting.Setting.{Setting}
use Rattle.settings.specs.declared.refusals.Refusal.{Refusal}

pub record Factors (s : Setting) (a b : List ℕ) (len : ℕ) : Type 0 where
  pub bounded : Bounds s
  pub left_size : length a ≤ longest_factor
  pub right_size : length b ≤ longest_factor
  pub left_below : Below s.p a
  pub right_below : Below s.p b
  pub room : product_length (length a) (length b) ≤ len

pub factors-checked : (s : Setting) (a b : List ℕ) (len : ℕ) → factor_checks s a b len ≡ fine → Factors s a b len
unfolding factor_checks
factors-checked s a b len e =
    let first = passed_first (setting_checks s) _ tt e in
    let bounded = bounds s first.0 in
    let shape = passed (factors_cause (length a) (length b)) 9 0 _ tt first.1 in
    let sizes = neither (ltb longest_factor (length a)) (ltb longest_factor (length b)) shape.0 in
    let third = passed_first (coefficients_check s.p a b) _ tt shape.1 in
    let below = (coefficients-check s.p a b (omega (arith, bounded.range.choice.p_low))).0 third.0 in
    record {
      bounded = bounded;
      left_size = ltb-false longest_factor (length a) sizes.0;
      right_size = ltb-false longest_factor (length b) sizes.1;
      left_below = below.0;
      right_below = below.1;
      room = ltb-false len (product_length (length a) (length b)) (passed-last (short_cause (product_length (length a) (length b)) len) 10 0 third.1);
    }

pub product-refused : (s : Setting) (a b : List ℕ) (len number place : ℕ) → factor_checks s a b len ≡ refused number place → product_checks s a b len ≡ refused number place
unfolding product_checks
product-refused s a b len number place e = rw e

pub product-fine : (s : Setting) (a b : List ℕ) (len : ℕ) → factor_checks s a b len ≡ fine → product_checks s a b len ≡ fine
unfolding product_checks
product-fine s a b len e =
    let f = factors-checked s a b len e in
    rw (e, never-overflows s f.bounded a b f.left_below f.right_below)

pub product-some : (m n : ℕ) → (product_length m n ≡ 0 → ⊥) → (0 < m) × (0 < n) × (product_length m n ≡ m + n - 1)
product-some zero n h = absurd (h refl)
product-some (suc m) zero h = absurd (h refl)
product-some (suc m) (suc n) h = (omega arith, omega arith, refl)

residue-at : (p : ℕ) (a b : List ℕ) (j : ℕ) → product_residue p a b j ≡ coefficient (residues p (product a b)) j
residue-at p a b j = sym (coefficient-residues p (product a b) j ∙ rw (coefficient-product a b j))

pub product-written : (s : Setting) (a b old after : List ℕ) (m : ℕ) → factor_checks s a b (length old) ≡ fine → m ≡ product_length (length a) (length b)
    → after ≡ filled m (product_residue s.p a b) old → Multiplies s a b old (Ok m) after
product-written s a b old after m e size h =
    writes-list (product_checks s a b (length old)) m (residues s.p (product a b)) old after (product-fine s a b (length old) e) (length-residues s.p (product a b) ∙ length-product a b ∙ sym size)
    (h ∙ ap (λ (f : ℕ → ℕ). filled m f old) (fun_ext (λ j. residue-at s.p a b j)))

factors-same : (s u : Setting) (a b : List ℕ) (len : ℕ) → setting_checks s ≡ fine → setting_checks u ≡ fine → s.p ≡ u.p → factor_checks s a b len ≡ factor_checks u a b len
unfolding factor_checks
factors-same s u a b len hs hu e = rw (hs, hu, e)

pub product-checks-same : (s u : Setting) (a b : List ℕ) (len : ℕ) → setting_checks s ≡ fine → setting_checks u ≡ fine → s.p ≡ u.p → product_checks s a b len ≡ product_checks u a b len
product-checks-same s u a b len hs hu e = go (factor_checks s a b len) refl
  where
    same : factor_checks s a b len ≡ factor_checks u a b len
    same = factors-same s u a b len hs hu e

    go : (v : Verdict) → factor_checks s a b len ≡ v → product_checks s a b len ≡ product_checks u a b len
    go (answered w) h = product-fine s a b len h ∙ sym (product-fine u a b len (sym same ∙ h))
    go (refused number place) h = product-refused s a b len number place h ∙ sym (product-refused u a b len number place (sym same ∙ h))

pub product-by-modulus : (s u : Setting) (a b old : List ℕ) (r v : Result ℕ Refusal) (x y : List ℕ) → setting_checks s ≡ fine → setting_checks u ≡ fine → s.p ≡ u.p → Multiplies s a b old r x → Multiplies u a b old v y
    → (r ≡ v) × (x ≡ y)
product-by-modulus s u a b old r v x y hs hu e hr hv =
    writes-once (product_checks u a b (length old)) (residues u.p (product a b)) old r v x y (rw (product-checks-same s u a b (length old) hs hu e, e) at hr) hv
