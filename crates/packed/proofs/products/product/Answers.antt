-- `product` meets its promise. Assumes nothing.
use Rattle.std.proofs.Common.{ℕ, ◌≡◌, refl, ◌+◌, ◌-◌, ◌<◌, List, length, sym, ◌∙◌, arith}
use Rattle.polynomials.specs.Lists.{product_length}
use Rattle.settings.specs.declared.setting.Setting.{Setting}
use Rattle.packed.specs.ProductLaws.{Factors, factors-checked, product-some, product-written}
use Rattle.packed.specs.Gathering.{ToMultiply}
use Rattle.packed.proofs.products.product.Goals as goal

module _ (s : Setting) (a b out : List ℕ) (m : ℕ) (f : Factors s a b (length out)) (size : m ≡ product_length (length a) (length b)) (some : 0 < m) where
  both : (0 < length a) × (0 < length b) × (product_length (length a) (length b) ≡ length a + length b - 1)
  both = product-some (length a) (length b) (λ e. absurd (omega arith))

  working : ToMultiply s a b out
  working = record {
    left = record { bounded = f.bounded; below = f.left_below; size = f.left_size };
    right = record { bounded = f.bounded; below = f.right_below; size = f.right_size };
    left_some = both.0;
    right_some = both.1;
    room = omega (arith, both.2, f.room);
  }

pub product_length-m-requires : goal.product_length-m-requires
product_length-m-requires c = let f = factors-checked _ _ _ _ c.in_ok-s.ensures.0 in (f.left_size, f.right_size)

pub multiply-requires : goal.multiply-requires
multiply-requires c =
    let a = c.args in
    let e = c.in_ok-s.ensures in
    rw e.1 (working a.s a.a.now a.b.now a.out.now c.product_length-m.result (factors-checked _ _ _ _ e.0) c.product_length-m.ensures c.if-m-gt0.true)

pub returns-in_ok-multiply : goal.returns-in_ok-multiply
returns-in_ok-multiply c =
    let a = c.args in
    let m = c.product_length-m in
    let e = c.in_ok-s.ensures in
    let f = factors-checked _ _ _ _ e.0 in
    let size : length a.a.now + length a.b.now - 1 ≡ m.result = sym (m.ensures ∙ (both a.s a.a.now a.b.now a.out.now m.result f m.ensures c.if-m-gt0.true).2) in
    product-written a.s a.a.now a.b.now a.out.now _ m.result e.0 m.ensures (rw (size, e.1) at c.multiply.ensures.1)

pub returns-else-m-gt0 : goal.returns-else-m-gt0
returns-else-m-gt0 c =
    let a = c.args in
    let m = c.product_length-m in
    let none : m.result ≡ 0 = omega arith in
    product-written a.s a.a.now a.b.now a.out.now a.out.now m.result c.in_ok-s.ensures.0 m.ensures (rw none refl)
