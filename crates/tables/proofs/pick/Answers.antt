-- `pick` meets its promise. Assumes nothing.
use Rattle.std.proofs.Common.{◌≡◌, true, false, not, ap, ◌∙◌, arith}
use Rattle.tables.specs.Tables.{fits}
use Rattle.tables.specs.FitLaws.{fits-searched, fits-size, fits-entries}
use Rattle.tables.proofs.pick.Goals.{Else-is_none, Else-is_none-2, Then-is_none, Then-is_none-2}
use Rattle.tables.proofs.pick.Goals as goal

-- the first buffer fits, or not; and so the second
first_fits : (c : Then-is_none) → fits c.args.s c.args.first.now ≡ true
first_fits c =
    rw (← c.in-Ok.ensures.1) (fits-searched c.in-Ok.s.accepted.setting c.args.first.now c.first_difference.result c.first_difference.ensures ∙ ap not c.is_none.ensures ∙ rw c.if-is_none.true)

first-parts : (c : Else-is_none) → fits c.args.s c.args.first.now ≡ false
first-parts c =
    rw (← c.in-Ok.ensures.1) (fits-searched c.in-Ok.s.accepted.setting c.args.first.now c.first_difference.result c.first_difference.ensures ∙ ap not c.is_none.ensures ∙ rw c.if-is_none.false)

second_fits : (c : Then-is_none-2) → fits c.args.s c.args.second.now ≡ true
second_fits c =
    rw (← c.in-Ok.ensures.1) (fits-searched c.in-Ok.s.accepted.setting c.args.second.now c.first_difference-else-is_none.result c.first_difference-else-is_none.ensures ∙ ap not c.is_none-else-is_none.ensures ∙ rw c.if-is_none-2.true)

second_parts : (c : Else-is_none-2) → fits c.args.s c.args.second.now ≡ false
second_parts c =
    rw (← c.in-Ok.ensures.1) (fits-searched c.in-Ok.s.accepted.setting c.args.second.now c.first_difference-else-is_none.result c.first_difference-else-is_none.ensures ∙ ap not c.is_none-else-is_none.ensures ∙ rw c.if-is_none-2.false)

pub slice_bounds-result-end-then-is_none : goal.slice_bounds-result-end-then-is_none
slice_bounds-result-end-then-is_none c =
    omega (arith, rw c.in-Ok.ensures.1 at c.table_size.ensures, fits-size c.args.s c.args.first.now (first_fits (goal.at.slice_bounds-result-end-then-is_none c).Then-is_none))

pub returns-then-is_none : goal.returns-then-is_none
returns-then-is_none c =
    let a = c.args in
    let e = c.in-Ok.ensures in
    let fit = first_fits (goal.at.returns-then-is_none c).Then-is_none in
    (rw (e.0, fit) (fits-entries a.s a.first.now c.table_size.result (rw e.1 at c.table_size.ensures) fit), rw (e.0, fit))

pub slice_bounds-result-end-then-is_none-2 : goal.slice_bounds-result-end-then-is_none-2
slice_bounds-result-end-then-is_none-2 c =
    omega (arith, rw c.in-Ok.ensures.1 at c.table_size-then-is_none-2.ensures, fits-size c.args.s c.args.second.now (second_fits (goal.at.slice_bounds-result-end-then-is_none-2 c).Then-is_none-2))

pub returns-then-is_none-2 : goal.returns-then-is_none-2
returns-then-is_none-2 c =
    let a = c.args in
    let e = c.in-Ok.ensures in
    let parted = first-parts (goal.at.returns-then-is_none-2 c).Else-is_none in
    let fit = second_fits (goal.at.returns-then-is_none-2 c).Then-is_none-2 in
    (rw (e.0, parted, fit) (fits-entries a.s a.second.now c.table_size-then-is_none-2.result (rw e.1 at c.table_size-then-is_none-2.ensures) fit), rw (e.0, parted, fit))

pub returns-else-is_none-2 : goal.returns-else-is_none-2
returns-else-is_none-2 c =
    let parted = first-parts (goal.at.returns-else-is_none-2 c).Else-is_none in
    let parted-too = second_parts (goal.at.returns-else-is_none-2 c).Else-is_none-2 in
    (rw (c.in-Ok.ensures.0, parted, parted-too), rw (c.in-Ok.ensures.0, parted, parted-too))
