-- `write_checks_in` meets its contract: the data words are turned into the list, it is divided, and its first words are the remainder. Assumes nothing.
use Rattle.std.proofs.Common.{ℕ, ◌-◌, ◌≤◌, ◌≡◌, sym, ap, ◌∙◌, List, arith, length, length-take-le, subst}
use Rattle.divisions.specs.Divisions.{degree, divided}
use Rattle.labels.specs.Labels.{modulus, carried}
use Rattle.labels.specs.Working.{Dividing}
use Rattle.labels.specs.DivisionSteps.{replaced}
use Rattle.labels.specs.CheckWordLaws.{carried-put, work-size, work-dividing, left-long, rest_below, check-words}
use Rattle.labels.proofs.division.write_checks_in.Goals.{After-divide, After-turn, Start}
use Rattle.labels.proofs.division.write_checks_in.Goals as goal

room : (c : Start) → length c.args.out.now ≤ length c.args.rest.now
room c = rw (work-size c.args.g.now c.args.content.now c.args.rest.now c.args.out.now c.requires) (omega arith)

-- data times x^m
put : (c : After-turn) → replaced (length c.args.out.now) (length c.args.rest.now) c.args.rest.now c.turn.new.out ≡ carried (length c.args.out.now) c.args.content.now
put c =
    let size = work-size c.args.g.now c.args.content.now c.args.rest.now c.args.out.now c.requires in
    carried-put (length c.args.out.now) (length c.args.rest.now - length c.args.out.now) c.args.content.now c.args.rest.now c.turn.new.out c.requires.zeros (omega (arith, size)) c.turn.ensures

left : (c : After-divide) → c.divide.new.rest ≡ divided modulus c.args.g.now (length (carried (length c.args.out.now) c.args.content.now) - degree c.args.g.now) (carried (length c.args.out.now) c.args.content.now)
left c =
    let g = c.args.g.now in
    let size = work-size c.args.g.now c.args.content.now c.args.rest.now c.args.out.now c.requires in
    let lent = carried-put (length c.args.out.now) (length c.args.rest.now - length c.args.out.now) c.args.content.now c.args.rest.now c.turn.new.out c.requires.zeros (omega (arith, size)) c.turn.ensures in
    c.divide.ensures ∙ ap (λ (l : List ℕ). divided modulus g (length l - degree g) l) lent

long : (c : After-divide) → length c.args.out.now ≤ length c.divide.new.rest
long c = left-long c.args.g.now c.args.content.now c.args.rest.now c.args.out.now c.requires c.divide.new.rest (left c)

pub divide-requires : goal.divide-requires
divide-requires c =
    subst (λ (l : List ℕ). Dividing c.args.g.now l) (sym (put (goal.at.divide-requires c).After-turn)) (work-dividing c.args.g.now c.args.content.now c.args.rest.now c.args.out.now c.requires)

pub turn_opposites-requires : goal.turn_opposites-requires
turn_opposites-requires c =
    (sym (length-take-le _ _ (long (goal.at.turn_opposites-requires c).After-divide)), rest_below c.args.g.now c.args.content.now c.args.rest.now c.args.out.now c.requires c.divide.new.rest (left (goal.at.turn_opposites-requires c).After-divide))

pub returns : goal.returns
returns c =
    check-words c.args.g.now c.args.content.now c.args.rest.now c.args.out.now c.requires c.divide.new.rest (left (goal.at.returns c).After-divide) c.turn_opposites.new.out c.turn_opposites.ensures
