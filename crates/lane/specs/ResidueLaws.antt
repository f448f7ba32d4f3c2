-- The reduction of a word from one quotient by p. Assumes nothing.
--     minus-steps                    (u - w) mod p, for a u below p
--     Correcting l u above           a lane record, and two of the u, so small that q times the one above is below 2^52
--     carry-times, carry-remainder   what is to be taken from u may be worked out
--     lower-plus, lower-less, lower-is, upper-less, upper_is
--                                    and taken from it: where u is lower, p is added first
--     Reducing l x                   a lane record, and a word that 11 takes
--     reducing                       so it is where nothing is refused
--     dividing                       it may be divided by p
--     Reduced l x above w i          w is the word of the m from place i on, and above is u_i
--     reduced-none, reduced-all      above the last place; at the first
--     place-starts                   a place starts within the word
--     next-times, next_small, above-small, next-correcting, next-plus, next-reduced
--                                    one place below: what is asked on the way, and that it is the word from there on
use Rattle.std.specs.Prelude.{◌≡◌, ℕ, suc, ◌+◌, ◌-◌, ◌*◌, ◌/◌, ◌%◌, ◌^◌, ◌<◌, ◌≤◌, true, false, not, T, List, drop, from_bits, nat_le, nat_lt, refl, Float}
use Rattle.std.proofs.Common.{sym, ◌∙◌, le_trans, lt_of_le_of_lt, mod-lt, mod-eq_of_lt, div-le_self, mul-le-mul_left, mul-le-mul_right, arith, drop_of_length-le, pow_pos, ltb-true, ltb-false, leb-false}
use Rattle.std.proofs.Math.Nat.{mod-le, zero-mod, add-mod_right, div-eq_of_lt, div-div-eq-div-mul, mul-div-le, pow-succ'}
use Rattle.std.specs.Float.{binary64}
use Rattle.std.specs.Float.Ieee.{fits, lt}
use Rattle.std.proofs.lemmas.Bool.{not-false}
use Rattle.polynomials.specs.Tests.{neither}
use Rattle.polynomials.specs.Indices.{upto}
use Rattle.polynomials.specs.IndexLaws.{length-upto}
use Rattle.polynomials.specs.Places.{packed, shifted, reduced, minus}
use Rattle.polynomials.specs.ReductionLaws.{reduced-shifted, reduced-turn, reduced-turn-most}
use Rattle.doubles.specs.Whole.{exact_below, double, whole_part, is_whole, Held, Exact, quotient_below}
use Rattle.doubles.specs.Exactly.{held, held_number, held-exact, whole-held, held_below, zero_is}
use Rattle.settings.specs.Limits.{word_bits}
use Rattle.settings.specs.Settings.{base, places, span_of}
use Rattle.settings.specs.Bounds.{Bounds}
use Rattle.words.specs.Places.{reduced_word}
use Rattle.words.specs.WordLaws.{span-power}
use Rattle.settings.specs.declared.setting.Setting.{Setting}
use Rattle.lane.specs.Lanes.{held_cause, improper_cause}
use Rattle.lane.specs.LaneLaws.{Doubles, ProperLane, lane-proper, held-modulus, held-base, modulus-small, word_small}
use Rattle.lane.specs.ExactLaws.{plus-asks, plus-gives, less-asks, less-gives, times-asks, times-gives}
use Rattle.lane.specs.QuotientLaws.{DoubleToDivide}
use Rattle.lane.specs.declared.Lane.{Lane}

pub minus-steps : (p u w : ℕ) → u < p → (u < w % p → u + p - w % p ≡ minus p u w) × (w % p ≤ u → u - w % p ≡ minus p u w)
minus-steps p u w h =
    let low : w % p < p = mod-lt w (omega arith) in (
      λ l. let same : u + p - w % p ≡ u + (p - w % p) = omega arith in
          same ∙ sym (mod-eq_of_lt (omega arith)),
      λ l. let same : u + (p - w % p) ≡ u - w % p + p = omega arith in
          rw (same, add-mod_right (u - w % p) p) (sym (mod-eq_of_lt (omega arith))),
    )

-- ---- one place

pub record Correcting (l : Lane) (u above : Float) : Type 0 where
  pub proper : ProperLane l
  pub u_exact : Exact u
  pub above_exact : Exact above
  pub u_below : whole_part u < l.setting.p
  pub short : base l.setting * whole_part above < quotient_below

module _ {l : Lane} {u above : Float} (pre : Correcting l u above) where
  abbrev p : ℕ
  p = l.setting.p

  abbrev carried : ℕ
  carried = base l.setting * whole_part above

  pub carry-times : Exact l.q × Exact above × (whole_part l.q * whole_part above < exact_below)
  carry-times = times-asks (held-base pre.proper) pre.above_exact (omega (arith, pre.short))

  module _ {t : Float} (ht : Held t (whole_part l.q * whole_part above)) where
    carry-is : Held t carried
    carry-is = times-gives (held-base pre.proper) pre.above_exact ht

    pub carry-remainder : DoubleToDivide l t
    carry-remainder = record { proper = pre.proper; exact = held-exact carry-is; short = rw (held_number carry-is) pre.short }

    module _ {r : Float} (hr : Held r (whole_part t % p)) where
      rest : Held r (carried % p)
      rest = rw (held_number carry-is) at hr

      rest-low : carried % p < p
      rest-low = mod-lt carried (omega (arith, pre.u_below))

      tests : lt u r ≡ nat_lt (whole_part u) (carried % p)
      tests = held_below pre.u_exact rest

      pub lower-plus : Exact u × Exact l.p × (whole_part u + whole_part l.p < exact_below)
      lower-plus = plus-asks pre.u_exact (held-modulus pre.proper) (omega (arith, pre.u_below, pre.proper.within.bounded.range.choice.p_high))

      module _ {v : Float} (hv : Held v (whole_part u + whole_part l.p)) where
        raised : Held v (whole_part u + p)
        raised = plus-gives pre.u_exact (held-modulus pre.proper) hv

        pub lower-less : Exact v × Exact r × (whole_part r ≤ whole_part v)
        lower-less = less-asks raised rest (omega (arith, rest-low))

        pub lower-is : lt u r ≡ true → {m : Float} → Held m (whole_part v - whole_part r) → Held m (minus p (whole_part u) carried)
        lower-is e hm = rw (← (minus-steps p (whole_part u) carried pre.u_below).0 (ltb-true (whole_part u) (carried % p) (sym tests ∙ e))) (less-gives raised rest hm)

      pub upper-less : lt u r ≡ false → Exact u × Exact r × (whole_part r ≤ whole_part u)
      upper-less e = less-asks pre.u_exact rest (ltb-false (whole_part u) (carried % p) (sym tests ∙ e))

      pub upper_is : lt u r ≡ false → {m : Float} → Held m (whole_part u - whole_part r) → Held m (minus p (whole_part u) carried)
      upper_is e hm = rw (← (minus-steps p (whole_part u) carried pre.u_below).1 (ltb-false (whole_part u) (carried % p) (sym tests ∙ e))) (less-gives pre.u_exact rest hm)

-- ---- all places

pub record Reducing (l : Lane) (x : Float) : Type 0 where
  pub proper : ProperLane l
  pub exact : Exact x
  pub below : whole_part x < base l.setting ^ places l.setting

pub reducing : (l : Lane) (x : Float) → Doubles l → T (fits binary64 x) → held_cause l ≡ false → improper_cause l.setting x ≡ false → Reducing l x
reducing l x ds f a b =
    let s = l.setting in
    let made : ProperLane l = lane-proper l ds a in
    let both = neither (not (is_whole x)) (nat_le (2 ^ span_of s) (whole_part x)) b in
    let below : whole_part x < 2 ^ span_of s = leb-false (2 ^ span_of s) (whole_part x) both.1 in
    record {
      proper = made;
      exact = whole-held x f (not-false (is_whole x) both.0) (omega (arith, word_small made.within (whole_part x) below));
      below = rw (span-power s) at below;
    }

abbrev residues_of : Setting → ℕ → List ℕ
residues_of s word = upto (places s) (reduced s.p (base s) word)

pub record Reduced (l : Lane) (x : Float) (above : ℕ) (w : Float) (i : ℕ) : Type 0 where
  pub inside : i ≤ places l.setting
  pub above_is : above ≡ shifted l.setting.p (base l.setting) (whole_part x) i
  pub held_word : Held w (packed (base l.setting) (drop i (residues_of l.setting (whole_part x))))

module _ {l : Lane} {x : Float} (pre : Reducing l x) where
  abbrev s : Setting
  s = l.setting

  abbrev word : ℕ
  word = whole_part x

  abbrev ms : List ℕ
  ms = residues_of s word

  bounded : Bounds s
  bounded = pre.proper.within.bounded

  p_low : 0 < s.p
  p_low = omega (arith, bounded.range.choice.p_low)

  short : word < quotient_below
  short = word_small pre.proper.within word (rw (span-power s) pre.below)

  pub dividing : DoubleToDivide l x
  dividing = record { proper = pre.proper; exact = pre.exact; short = short }

  pub reduced-none : Reduced l x 0 (from_bits binary64 0) (places s)
  reduced-none = record {
    inside = omega arith;
    above_is = rw (div-eq_of_lt pre.below, zero-mod s.p);
    held_word = rw (zero_is, drop_of_length-le ms {i = places s} (rw length-upto (omega arith))) (held 0 (omega arith));
  }

  pub reduced-all : {above : ℕ} {w : Float} {i : ℕ} → Reduced l x above w i → i ≤ 0 → Held w (reduced_word s word)
  reduced-all {i = i} t h = let through : i ≡ 0 = omega arith in rw through at t.held_word

  module _ {above : ℕ} {w : Float} {i : ℕ} (t : Reduced l x above w i) (more : 0 < i) where
    pub place-starts : (i - 1) * s.t < word_bits
    place-starts =
        let lower : (i - 1) * s.t ≤ places s * s.t = mul-le-mul_right {m = i - 1} {n = places s} s.t (omega (arith, t.inside)) in
        omega (arith, lower, pre.proper.within.short)

    -- the word from one place below, which is at most the whole
    next : packed (base s) (drop i ms) * base s + reduced s.p (base s) word (i - 1) ≡ packed (base s) (drop (i - 1) ms)
    next = reduced-turn s.p (base s) (places s) word i _ more t.inside refl

    room : packed (base s) (drop i ms) * base s + reduced s.p (base s) word (i - 1) < quotient_below
    room = lt_of_le_of_lt (reduced-turn-most s.p (base s) (places s) word i _ (pow_pos s.t) more t.inside refl) short

    pub next-times : Exact w × Exact l.q × (whole_part w * whole_part l.q < exact_below)
    next-times = times-asks t.held_word (held-base pre.proper) (omega (arith, room))

    above_low : above < s.p
    above_low = rw t.above_is (mod-lt (word / base s ^ i) p_low)

    pub above-small : above < exact_below
    above-small = omega (arith, above_low, modulus-small pre.proper.within)

    module _ {u : ℕ} (hu : u ≡ shifted s.p (base s) word (i - 1)) where
      u-low : u < s.p
      u-low = rw hu (mod-lt (word / base s ^ (i - 1)) p_low)

      pub next_small : u < exact_below
      next_small = omega (arith, u-low, modulus-small pre.proper.within)

      above_place : suc (i - 1) ≡ i
      above_place = omega arith

      -- q u_i is no more than what stands from the place below on, and so than the word
      carry : base s * above ≤ word
      carry =
          let part : above ≤ word / base s = rw (t.above_is, ← above_place, pow-succ', ← div-div-eq-div-mul) (le_trans (mod-le (word / base s / base s ^ (i - 1)) s.p) (div-le_self (word / base s) (base s ^ (i - 1)))) in
          le_trans (mul-le-mul_left (base s) part) (mul-div-le word (base s))

      pub next-correcting : Correcting l (double u) (double above)
      next-correcting =
          let hu : Held (double u) u = held u next_small in
          let ha : Held (double above) above = held above above-small in
          record {
            proper = pre.proper;
            u_exact = held-exact hu;
            above_exact = held-exact ha;
            u_below = rw (held_number hu) u-low;
            short = rw (held_number ha) (omega (arith, carry, short));
          }

      module _ {v m : Float} (hv : Held v (whole_part w * whole_part l.q)) (hm : Held m (minus s.p (whole_part (double u)) (base s * whole_part (double above)))) where
        up : Held v (packed (base s) (drop i ms) * base s)
        up = times-gives t.held_word (held-base pre.proper) hv

        m-is : Held m (reduced s.p (base s) word (i - 1))
        m-is =
            let same : minus s.p (whole_part (double u)) (base s * whole_part (double above)) ≡ reduced s.p (base s) word (i - 1) =
            rw (held_number (held u next_small), held_number (held above above-small), hu, t.above_is)
            (sym (reduced-shifted s.p (base s) word (i - 1) p_low ∙ rw above_place)) in
            rw same at hm

        pub next-plus : Exact v × Exact m × (whole_part v + whole_part m < exact_below)
        next-plus = plus-asks up m-is (omega (arith, room))

        pub next-reduced : {r : Float} → Held r (whole_part v + whole_part m) → Reduced l x u r (i - 1)
        next-reduced hr = record { inside = omega (arith, t.inside); above_is = hu; held_word = rw next at (plus-gives up m-is hr) }
