-- The quotient by p from the cut product, put right. Assumes nothing.
--     DoubleToDivide l x            a lane record, and a whole number below 2^52
--     cut-asks, cut-is, cut_small   what the cut of the product asks, and what it gives: a number below 2^53
--     guess-times, guess-less       what is left of x may be worked out, since the cut product is never too high
--     guess-right, guess-low        it tells whether the cut product is the quotient or one less
--     quotient-times, quotient-less, quotient-left
--                                   the remainder may be worked out, and it is what is left of x
use Rattle.std.specs.Prelude.{◌≡◌, ℕ, ◌+◌, ◌-◌, ◌*◌, ◌/◌, ◌%◌, ◌<◌, ◌≤◌, true, false, T, pos, from_bits, Float}
use Rattle.std.proofs.Common.{sym, ap, ◌∙◌, div-le_self, div-mul-le_self, arith, ltb-true, ltb-false}
use Rattle.std.proofs.Math.Nat.{mod-eq-sub-div-mul}
use Rattle.std.specs.Float.{fin, binary64}
use Rattle.std.specs.Float.Ieee.{add, mul, lt}
use Rattle.doubles.specs.Whole.{exact_below, double, whole_part, Held, Exact, inverse, cut_product, quotient_below}
use Rattle.doubles.specs.Exactly.{held, plus-held, held_below, one-is}
use Rattle.doubles.specs.Quotients.{off-by-one, may-cut, put_right}
use Rattle.lane.specs.LaneLaws.{ProperLane, held-modulus, held-inverse}
use Rattle.lane.specs.ExactLaws.{times-asks, times-gives, less-asks, less-gives}
use Rattle.lane.specs.declared.Lane.{Lane}

pub record DoubleToDivide (l : Lane) (x : Float) : Type 0 where
  pub proper : ProperLane l
  pub exact : Exact x
  pub short : whole_part x < quotient_below

module _ {l : Lane} {x : Float} (pre : DoubleToDivide l x) where
  abbrev p : ℕ
  p = l.setting.p

  abbrev guess : ℕ
  guess = cut_product (whole_part x) p

  p_low : 0 < p
  p_low = omega (arith, pre.proper.within.bounded.range.choice.p_low)

  near : (guess ≤ whole_part x / p) × (whole_part x / p ≤ guess + 1)
  near = off-by-one (whole_part x) p pre.short p_low pre.proper.within.bounded.range.choice.p_high

  -- ---- the cut

  product_is : mul binary64 x l.inverse ≡ mul binary64 (double (whole_part x)) (inverse p)
  product_is = ap (λ (y : Float). mul binary64 y l.inverse) pre.exact.is ∙ ap (mul binary64 (double (whole_part x))) (held-inverse pre.proper)

  pub cut-asks : T (lt (fin true 1 (pos 0)) (mul binary64 x l.inverse)) × T (lt (mul binary64 x l.inverse) (fin false 1 (pos 64)))
  cut-asks = rw product_is (may-cut (whole_part x) p pre.short p_low pre.proper.within.bounded.range.choice.p_high)

  pub cut-is : whole_part (mul binary64 x l.inverse) ≡ guess
  cut-is = ap whole_part product_is

  pub cut_small : guess < exact_below
  cut_small = omega (arith, near.0, div-le_self (whole_part x) p, pre.short)

  -- ---- put right

  right : (guess * p ≤ whole_part x) × (whole_part x - guess * p < p → guess ≡ whole_part x / p) × (p ≤ whole_part x - guess * p → guess + 1 ≡ whole_part x / p)
  right = put_right (whole_part x) p guess p_low near.0 near.1

  module _ {g : Float} (hg : Held g guess) where
    pub guess-times : Exact g × Exact l.p × (whole_part g * whole_part l.p < exact_below)
    guess-times = times-asks hg (held-modulus pre.proper) (omega (arith, right.0, pre.short))

    module _ {t : Float} (ht : Held t (whole_part g * whole_part l.p)) where
      taken : Held t (guess * p)
      taken = times-gives hg (held-modulus pre.proper) ht

      pub guess-less : Exact x × Exact t × (whole_part t ≤ whole_part x)
      guess-less = less-asks pre.exact taken right.0

      module _ {r : Float} (hr : Held r (whole_part x - whole_part t)) where
        left : Held r (whole_part x - guess * p)
        left = less-gives pre.exact taken hr

        pub guess-right : lt r l.p ≡ true → Held g (whole_part x / p)
        guess-right e = rw (← right.1 (ltb-true (whole_part x - guess * p) p (sym (held_below left (held-modulus pre.proper)) ∙ e))) hg

        pub guess-low : lt r l.p ≡ false → Held (add binary64 g (from_bits binary64 0x3ff0_0000_0000_0000)) (whole_part x / p)
        guess-low e =
            let one_more : guess + 1 ≡ whole_part x / p = right.2 (ltb-false (whole_part x - guess * p) p (sym (held_below left (held-modulus pre.proper)) ∙ e)) in
            rw (one-is, ← one_more) (plus-held hg (held 1 (omega arith)) (omega (arith, one_more, div-le_self (whole_part x) p, pre.short)))

  -- ---- the remainder

  module _ {q : Float} (hq : Held q (whole_part x / p)) where
    pub quotient-times : Exact q × Exact l.p × (whole_part q * whole_part l.p < exact_below)
    quotient-times = times-asks hq (held-modulus pre.proper) (omega (arith, div-mul-le_self (whole_part x) p, pre.short))

    module _ {t : Float} (ht : Held t (whole_part q * whole_part l.p)) where
      pub quotient-less : Exact x × Exact t × (whole_part t ≤ whole_part x)
      quotient-less = less-asks pre.exact (times-gives hq (held-modulus pre.proper) ht) (div-mul-le_self (whole_part x) p)

      pub quotient-left : {r : Float} → Held r (whole_part x - whole_part t) → Held r (whole_part x % p)
      quotient-left hr = rw (mod-eq-sub-div-mul (whole_part x) p) (less-gives pre.exact (times-gives hq (held-modulus pre.proper) ht) hr)
