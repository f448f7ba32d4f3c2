-- `check_sum` meets its contract. Assumes nothing.
use Rattle.std.proofs.Common.{◌≡◌, ℕ, ◌/◌, ◌%◌, ◌<◌, ◌≤◌, true, false, List, length, sym, ◌∙◌, rules, le-ltb, lt-ltb}
use Rattle.settings.specs.Answers.{refused}
use Rattle.settings.specs.Coefficients.{coefficients_check}
use Rattle.packed.specs.RunningChecks.{pairs-shape, pairs-refused}
use Rattle.lane.specs.Lanes.{held_cause, lane_sum_checks}
use Rattle.lane.specs.LaneLaws.{ProperLane, lane-proper}
use Rattle.lane.specs.declared.Lane.{Lane}
use Rattle.lane.proofs.sums.check_sum.Goals.{Else-held_cause, then-xs-ys-via-then-xs-ys, then-xs-ys-via-else-xs-ys+then-xs-s-ne0}
use Rattle.lane.proofs.sums.check_sum.Goals as goal

module _ (l : Lane) (xs ys : List ℕ) where
  at-12 : held_cause l ≡ true → refused 12 0 ≡ lane_sum_checks l xs ys
  unfolding lane_sum_checks
  at-12 e = rw e

  module _ (ok : held_cause l ≡ false) where
    at_9 : ((length xs ≡ length ys) × (length xs % l.setting.k ≡ 0) → ⊥) → refused 9 0 ≡ lane_sum_checks l xs ys
    unfolding lane_sum_checks
    at_9 h = rw (ok, pairs-refused l.setting.k (length xs) (length ys) h)

    module _ (shape : (length xs ≡ length ys) × (length xs % l.setting.k ≡ 0)) where
      at-13 : l.setting.n < length xs / l.setting.k → refused 13 0 ≡ lane_sum_checks l xs ys
      unfolding lane_sum_checks
      at-13 h = rw (ok, (pairs-shape l.setting.k (length xs) (length ys)).1 shape, lt-ltb l.setting.n (length xs / l.setting.k) h)

      from-8 : length xs / l.setting.k ≤ l.setting.n → coefficients_check l.setting.p xs ys ≡ lane_sum_checks l xs ys
      unfolding lane_sum_checks
      from-8 h = rw (ok, (pairs-shape l.setting.k (length xs) (length ys)).1 shape, le-ltb l.setting.n (length xs / l.setting.k) h)

passed : (c : Else-held_cause) → held_cause c.args.lane ≡ false
passed c = sym c.held_cause.ensures ∙ c.if-held_cause.false

made : (c : Else-held_cause) → ProperLane c.args.lane
made c = lane-proper c.args.lane (record { modulus = search rules; base = search rules; inverse = search rules }) (passed c)

pub returns-then-held_cause : goal.returns-then-held_cause
returns-then-held_cause c = let a = c.args in at-12 a.lane a.xs.now a.ys.now (sym c.held_cause.ensures ∙ c.if-held_cause.true)

pub returns-then-xs-ys : goal.returns-then-xs-ys
returns-then-xs-ys c =
    let a = c.args in
    let at = at_9 a.lane a.xs.now a.ys.now (passed (goal.at.returns-then-xs-ys c).Else-held_cause) in
    elim c.then-xs-ys.branch [
      | then-xs-ys-via-then-xs-ys w ↦ at (λ h. w.if-xs-ys.true h.0)
      | then-xs-ys-via-else-xs-ys+then-xs-s-ne0 w ↦ at (λ h. w.if-xs-s-ne0.true h.1)
    ]

pub nonzero_rem-xs : goal.nonzero_rem-xs
nonzero_rem-xs c = (made (goal.at.nonzero_rem-xs c).Else-held_cause).within.bounded.range.choice.k_low

pub nonzero_div-xs : goal.nonzero_div-xs
nonzero_div-xs c = (made (goal.at.nonzero_div-xs c).Else-held_cause).within.bounded.range.choice.k_low

pub returns-then-s-xs : goal.returns-then-s-xs
returns-then-s-xs c =
    let a = c.args in
    at-13 a.lane a.xs.now a.ys.now (passed (goal.at.returns-then-s-xs c).Else-held_cause) (c.if-xs-ys.false, c.if-xs-s-ne0.false) c.if-s-xs.true

pub returns : goal.returns
returns c =
    let a = c.args in
    c.check_coefficients.ensures ∙ from-8 a.lane a.xs.now a.ys.now (passed (goal.at.returns c).Else-held_cause) (c.if-xs-ys.false, c.if-xs-s-ne0.false) c.if-s-xs.false
