-- `reduce` meets its contract. Assumes nothing.
use Rattle.std.proofs.Common.{◌≡◌, false, sym, ◌∙◌, rules}
use Rattle.lane.specs.Lanes.{held_cause}
use Rattle.lane.specs.LaneLaws.{held-within}
use Rattle.lane.specs.ResidueLaws.{reducing}
use Rattle.lane.proofs.reduce.Goals.{Else-held_cause}
use Rattle.lane.proofs.reduce.Goals as goal

made : (c : Else-held_cause) → held_cause c.args.lane ≡ false
made c = sym c.held_cause.ensures ∙ c.if-held_cause.false

pub invariant_of-s : goal.invariant_of-s
invariant_of-s c = record { bounds = held-within c.args.lane (made (goal.at.invariant_of-s c).Else-held_cause) }

pub reduce_word-requires : goal.reduce_word-requires
reduce_word-requires c =
    let a = c.args in
    reducing a.lane a.word (record { modulus = search rules; base = search rules; inverse = search rules }) (search rules) (made (goal.at.reduce_word-requires c).Else-held_cause) (sym c.improper_cause.ensures ∙ c.if-improper_cause.false)
