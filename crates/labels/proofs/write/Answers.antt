-- `write` meets its contract: the data words are copied, and the check words are put after them. Assumes nothing.
use Rattle.std.proofs.Common.{◌≡◌, ◌+◌, ◌-◌, ◌≤◌, ◌++◌, length, drop, sym, ◌∙◌, arith, length-append, length-drop, length-take-le}
use Rattle.settings.specs.Answers.{fine}
use Rattle.polynomials.specs.Lists.{part}
use Rattle.polynomials.specs.ListLaws.{coefficients, length_part}
use Rattle.labels.specs.Labels.{check_count, write_checks}
use Rattle.labels.specs.CheckLaws.{Writable, write-passed, count_most}
use Rattle.labels.specs.LabelLaws.{label-length, label-put}
use Rattle.labels.proofs.write.Goals.{After-check_count, After-copy_from_slice}
use Rattle.labels.proofs.write.Goals as goal

writable : (c : After-check_count) → Writable c.args.level c.args.content.now (length c.args.out.now)
writable c = write-passed c.args.level c.args.content.now (length c.args.out.now) (sym c.in_ok-check_data.ensures)

-- the label ends within the list
inside : (c : After-copy_from_slice) → length c.args.content.now + c.check_count.result ≤ length (c.copy_from_slice.new.self ++ drop (length c.args.content.now) c.args.out.now)
inside c =
    let w = write-passed c.args.level c.args.content.now (length c.args.out.now) (sym c.in_ok-check_data.ensures) in
    rw (c.copy_from_slice.ensures.after, length-append, length-drop, c.check_count.ensures) (omega (arith, w.room))

-- what is lent for the check words has a place for each
part-size : (c : After-copy_from_slice)
    → length (part (length c.args.content.now) (length c.args.content.now + c.check_count.result) (c.copy_from_slice.new.self ++ drop (length c.args.content.now) c.args.out.now)) ≡ c.check_count.result
part-size c = length_part (length c.args.content.now) _ (c.copy_from_slice.new.self ++ drop (length c.args.content.now) c.args.out.now) (inside c) ∙ omega arith

pub check_count-requires : goal.check_count-requires
check_count-requires c = (write-passed c.args.level c.args.content.now (length c.args.out.now) (sym c.in_ok-check_data.ensures)).level

pub overflow_add-n : goal.overflow_add-n
overflow_add-n c = rw c.check_count.ensures (omega (arith, (writable c).few))

pub slice_bounds-copy_from_slice-end : goal.slice_bounds-copy_from_slice-end
slice_bounds-copy_from_slice-end c = omega (arith, (writable (goal.at.slice_bounds-copy_from_slice-end c).After-check_count).room)

pub slice_bounds-copy_from_slice-end-2 : goal.slice_bounds-copy_from_slice-end-2
slice_bounds-copy_from_slice-end-2 c = sym (length-take-le _ _ (omega (arith, (writable (goal.at.slice_bounds-copy_from_slice-end-2 c).After-check_count).room)))

pub copy_from_slice-requires : goal.copy_from_slice-requires
copy_from_slice-requires c = length-take-le _ _ (omega (arith, (writable (goal.at.copy_from_slice-requires c).After-check_count).room))

pub slice_bounds-write_checks-end : goal.slice_bounds-write_checks-end
slice_bounds-write_checks-end c = inside (goal.at.slice_bounds-write_checks-end c).After-copy_from_slice

pub write_checks-requires : goal.write_checks-requires
write_checks-requires c =
    let w = writable (goal.at.write_checks-requires c).After-check_count in
    let size = part-size (goal.at.write_checks-requires c).After-copy_from_slice in
    let count = c.check_count.ensures in
    record {
      below = w.below;
      places = rw (size, count) (count_most c.args.level w.level);
      few = rw (size, count) w.few;
    }

pub returns : goal.returns
returns c =
    let a = c.args in
    let m = c.check_count in
    let s = a.level in
    let xs = a.content.now in
    let w = writable (goal.at.returns c).After-check_count in
    let past : length xs + m.result - length xs ≡ check_count s = omega (arith, m.ensures) in
    let fine-so-far : write_checks s xs (length a.out.now) ≡ fine = sym c.in_ok-check_data.ensures in
    let checks = rw (part-size (goal.at.returns c).After-copy_from_slice, m.ensures) at c.write_checks.ensures in (
      rw (fine-so-far, label-length s xs, m.ensures),
      rw (fine-so-far, past) (label-put s xs a.out.now (c.copy_from_slice.new.self ++ drop (length xs) a.out.now) c.write_checks.new.out w.below (rw (c.copy_from_slice.ensures.after, coefficients xs)) checks),
    )
