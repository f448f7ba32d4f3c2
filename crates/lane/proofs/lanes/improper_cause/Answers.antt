-- `improper_cause` meets its contract. Assumes nothing.
use Rattle.std.proofs.lemmas.Bool.{eqb-false, not-true, not-false}
use Rattle.std.proofs.Common.{◌≡◌, ℕ, ◌^◌, ◌*◌, ◌%◌, Bool, true, false, not, T, leb, sym, refl, ◌∙◌, true≢false, arith, rules, ne_eqb, leb-false, Float}
use Rattle.std.proofs.lemmas.Nat.{one_shl}
use Rattle.std.specs.Float.{binary64}
use Rattle.std.specs.Float.Ieee.{fits, le, eq, ne}
use Rattle.polynomials.specs.Tests.{neither}
use Rattle.doubles.specs.Whole.{double, whole_part, is_whole}
use Rattle.doubles.specs.Exactly.{may-hold, zero_is}
use Rattle.doubles.specs.Words.{Tested, whole-tested, tested-cut, tested-number, tested-whole, short-is}
use Rattle.settings.specs.Settings.{span_of}
use Rattle.settings.specs.declared.setting.Setting.{Setting}
use Rattle.lane.specs.Lanes.{improper_cause}
use Rattle.lane.specs.LaneLaws.{LaneBounds, word_small}
use Rattle.lane.proofs.lanes.improper_cause.Goals.{Else-not-x, Else-x-eq-MINUS_ZERO, Start, then-not-x-via-then-not-x, then-not-x-via-else-not-x+then-not-x-2, then-not-x-via-else-not-x+else-not-x-2+then-x-eq-MINUS_ZERO}
use Rattle.lane.proofs.lanes.improper_cause.Goals as goal

module _ {s : Setting} (b : LaneBounds s) (x : Float) (f : T (fits binary64 x)) where
  -- what 11 takes has passed the tests, and so what fails one is refused
  takes : improper_cause s x ≡ false → Tested x
  takes e =
      let both = neither (not (is_whole x)) (leb (2 ^ span_of s) (whole_part x)) e in
      whole-tested x f (not-false (is_whole x) both.0) (word_small b (whole_part x) (leb-false (2 ^ span_of s) (whole_part x) both.1))

  refuses : (Tested x → ⊥) → true ≡ improper_cause s x
  refuses h = go (improper_cause s x) refl
    where
      go : (c : Bool) → improper_cause s x ≡ c → true ≡ c
      go true e = refl
      go false e = absurd (h (takes e))

  module _ (t : Tested x) {w : ℕ} (cut : w ≡ whole_part x) where
    at-fraction : ne (double w) x ≡ true → ne (double w) x ≡ improper_cause s x
    unfolding ne
    at-fraction h =
        let none : is_whole x ≡ false = sym (tested-whole x f t) ∙ not-true (eq (double (whole_part x)) x) (rw cut at h) in
        rw none h

    at-end : ne (double w) x ≡ false → leb (1 * 2 ^ span_of s % 2 ^ 64) w ≡ improper_cause s x
    unfolding ne
    at-end h =
        let whole : is_whole x ≡ true = sym (tested-whole x f t) ∙ not-false (eq (double (whole_part x)) x) (rw cut at h) in
        rw (whole, cut, one_shl (span_of s) 64 (omega (arith, b.short)))

fitting : (c : Start) → T (fits binary64 c.args.x)
fitting c = search rules

from_zero : (c : Else-not-x) → le (double 0) c.args.x ≡ true
from_zero c = rw (← zero_is) c.if-not-x.false

tested : (c : Else-x-eq-MINUS_ZERO) → Tested c.args.x
tested c = record {
  from_zero = rw (← zero_is) c.if-not-x.false;
  short = rw (← short-is) c.if-not-x-2.false;
  not_minus = ne_eqb _ _ c.if-x-eq-MINUS_ZERO.false;
}

pub returns-then-not-x : goal.returns-then-not-x
returns-then-not-x c =
    let refused = refuses c.args.s.bounds c.args.x (fitting (goal.at.returns-then-not-x c).Start) in
    elim c.then-not-x.branch [
      | then-not-x-via-then-not-x w ↦ refused (λ t. true≢false (sym t.from_zero ∙ rw (← zero_is) w.if-not-x.true))
      | then-not-x-via-else-not-x+then-not-x-2 w ↦ refused (λ t. true≢false (sym t.short ∙ rw (← short-is) w.if-not-x-2.true))
      | then-not-x-via-else-not-x+else-not-x-2+then-x-eq-MINUS_ZERO w ↦ refused (λ t. eqb-false _ _ t.not_minus w.if-x-eq-MINUS_ZERO.true)
    ]

pub truncating_f64_to_u64-word-requires : goal.truncating_f64_to_u64-word-requires
truncating_f64_to_u64-word-requires c = let cut = tested-cut (tested c) in record { lower_bound = cut.0; upper_bound = cut.1 }

pub int_to_float-word : goal.int_to_float-word
int_to_float-word c = may-hold _ (rw c.truncating_f64_to_u64-word.ensures (omega (arith, tested-number (tested (goal.at.int_to_float-word c).Else-x-eq-MINUS_ZERO))))

pub returns-then-word-x : goal.returns-then-word-x
returns-then-word-x c =
    at-fraction c.args.s.bounds c.args.x (fitting (goal.at.returns-then-word-x c).Start) (tested (goal.at.returns-then-word-x c).Else-x-eq-MINUS_ZERO) c.truncating_f64_to_u64-word.ensures c.if-word-x.true

pub returns-else-word-x : goal.returns-else-word-x
returns-else-word-x c =
    at-end c.args.s.bounds c.args.x (fitting (goal.at.returns-else-word-x c).Start) (tested (goal.at.returns-else-word-x c).Else-x-eq-MINUS_ZERO) c.truncating_f64_to_u64-word.ensures c.if-word-x.false
