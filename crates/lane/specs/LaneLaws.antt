-- What a lane record that is not 12 gives. Assumes nothing.
--     LaneBounds s          the setting has its bounds, and its words have fewer than 53 bits
--     lane-bounds           so it is where nothing is refused up to 16
--     modulus-small, width_small, base-small
--                           p and q are below 2^53
--     word_small            a word of such a setting is below 2^52
--     ProperLane l          a record as make makes it, of a setting with these bounds
--     held-modulus, held-base, held-inverse
--                           its doubles
--     held-checked, held-within
--                           the setting of a record that is not 12
--     Doubles l             its fields are doubles, which every record's are
--     held-is               12 is given exactly where the record is not what make would make of its setting
--     lane-proper           so a record that is not 12 is one as make makes it
use Rattle.std.specs.Prelude.{◌≡◌, ℕ, ◌-◌, ◌*◌, ◌^◌, ◌<◌, ◌≤◌, false, T, ◌↔◌, pos, Float}
use Rattle.std.proofs.Common.{ap, ◌∙◌, lt_of_lt_of_le, le-mul_of_pos_right, mul_comm, arith, pow_mono, leb-false}
use Rattle.std.proofs.Math.Pow.{pow-lt}
use Rattle.std.specs.Float.{binary64}
use Rattle.std.specs.Float.Ieee.{fits}
use Rattle.std.specs.Float.Ieee.Fits.{of_int-fits, div-fits}
use Rattle.polynomials.specs.Tests.{neither}
use Rattle.doubles.specs.Whole.{exact_below, double, Held, inverse, quotient_below, differs_in_bits}
use Rattle.doubles.specs.Bits.{double-number, inverse-number, same_bits, no_difference}
use Rattle.settings.specs.Answers.{fine, refuse, refuses}
use Rattle.settings.specs.AnswerLaws.{passed_first, passed-last, refuses-none}
use Rattle.settings.specs.Settings.{setting_checks, base, span_of}
use Rattle.settings.specs.Bounds.{Bounds, bounds}
use Rattle.settings.specs.declared.setting.Setting.{Setting}
use Rattle.lane.specs.Lanes.{lane_bits, lane_cause, make_checks, lane_of, other_doubles, held_cause}
use Rattle.lane.specs.declared.Lane.{Lane}

pub record LaneBounds (s : Setting) : Type 0 where
  pub bounded : Bounds s
  pub short : span_of s < lane_bits

pub lane-bounds : (s : Setting) → make_checks s ≡ fine → LaneBounds s
unfolding make_checks
lane-bounds s e =
    let a = passed_first (setting_checks s) (refuse (lane_cause s) 16 0) tt e in
    record { bounded = bounds s a.0; short = leb-false lane_bits (span_of s) (passed-last (lane_cause s) 16 0 a.1) }

module _ {s : Setting} (b : LaneBounds s) where
  pub modulus-small : s.p < exact_below
  modulus-small = omega (arith, b.bounded.range.choice.p_high)

  pub width_small : s.t < lane_bits
  width_small =
      let once : s.t ≤ s.t * (2 * s.k - 1) = le-mul_of_pos_right s.t (omega (arith, b.bounded.range.choice.k_low)) in
      omega (arith, b.short, once, mul_comm s.t (2 * s.k - 1))

  pub base-small : base s < exact_below
  base-small = pow-lt width_small

  pub word_small : (w : ℕ) → w < 2 ^ span_of s → w < quotient_below
  word_small w h = lt_of_lt_of_le h (pow_mono {j = 52} (omega (arith, b.short)))

pub record ProperLane (l : Lane) : Type 0 where
  pub within : LaneBounds l.setting
  pub made : l ≡ lane_of l.setting

module _ {l : Lane} (h : ProperLane l) where
  pub held-modulus : Held l.p l.setting.p
  held-modulus = record { is = ap (λ (m : Lane). m.p) h.made; below = modulus-small h.within }

  pub held-base : Held l.q (base l.setting)
  held-base = record { is = ap (λ (m : Lane). m.q) h.made; below = base-small h.within }

  pub held-inverse : l.inverse ≡ inverse l.setting.p
  held-inverse = ap (λ (m : Lane). m.inverse) h.made

-- ---- 12

pub held-checked : (l : Lane) → held_cause l ≡ false → make_checks l.setting ≡ fine
unfolding held_cause
held-checked l e = (refuses-none (make_checks l.setting)).0 (neither (refuses (make_checks l.setting)) (other_doubles l) e).0

pub held-within : (l : Lane) → held_cause l ≡ false → LaneBounds l.setting
held-within l e = lane-bounds l.setting (held-checked l e)

pub record Doubles (l : Lane) : Type 0 where
  pub modulus : T (fits binary64 l.p)
  pub base : T (fits binary64 l.q)
  pub inverse : T (fits binary64 l.inverse)

module _ (l : Lane) (ds : Doubles l) where
  abbrev s : Setting
  s = l.setting

  same : other_doubles l ≡ false → l ≡ lane_of s
  same e =
      let a = neither (differs_in_bits l.p (double s.p)) _ e in
      let b = neither (differs_in_bits l.q (double (base s))) (differs_in_bits l.inverse (inverse s.p)) a.1 in
      let p : l.p ≡ double s.p = same_bits l.p (double s.p) ds.modulus (of_int-fits binary64 (pos s.p)) a.0 in
      let q : l.q ≡ double (base s) = same_bits l.q (double (base s)) ds.base (of_int-fits binary64 (pos (base s))) b.0 in
      let i : l.inverse ≡ inverse s.p = same_bits l.inverse (inverse s.p) ds.inverse (div-fits binary64 (double 1) (double s.p)) b.1 in
      ap (λ (x : Float). with x l.q l.inverse) p ∙ ap (λ (x : Float). with (double s.p) x l.inverse) q ∙ ap (with (double s.p) (double (base s))) i
    where
      with : Float → Float → Float → Lane
      with p q i = record { setting = s; p = p; q = q; inverse = i }

  pub held-is : (held_cause l ≡ false) ↔ ((make_checks s ≡ fine) × (l ≡ lane_of s))
  unfolding held_cause
  held-is = (
    λ e. (held-checked l e, same (neither (refuses (make_checks s)) (other_doubles l) e).1),
    λ h. rw ((refuses-none (make_checks s)).1 h.0) (other_none (lane-bounds s h.0) h.1),
  )
    where
      other_none : LaneBounds s → l ≡ lane_of s → other_doubles l ≡ false
      other_none b e =
          let p : differs_in_bits l.p (double s.p) ≡ false = rw (ap (λ (m : Lane). m.p) e) (no_difference (double s.p) (double-number s.p (modulus-small b))) in
          let q : differs_in_bits l.q (double (base s)) ≡ false = rw (ap (λ (m : Lane). m.q) e) (no_difference (double (base s)) (double-number (base s) (base-small b))) in
          let i : differs_in_bits l.inverse (inverse s.p) ≡ false = rw (ap (λ (m : Lane). m.inverse) e) (no_difference (inverse s.p) (inverse-number s.p (omega (arith, b.bounded.range.choice.p_low)) b.bounded.range.choice.p_high)) in
          rw (p, q, i)

  pub lane-proper : held_cause l ≡ false → ProperLane l
  lane-proper e = let h = held-is.0 e in record { within = lane-bounds s h.0; made = h.1 }
