-- `pairs_line` meets its contract. Assumes nothing.
use Rattle.std.proofs.Common.{◌≡◌, length, replicate, arith, rules, sym, length-take-le}
use Rattle.settings.specs.Settings.{InRange}
use Rattle.jobs.specs.FinishLaws.{adding-range, closed-never, closed-line}
use Rattle.jobs.proofs.line.pairs_line.Goals.{In-Ok}
use Rattle.jobs.proofs.line.pairs_line.Goals as goal

-- the setting is in range
range : (c : In-Ok) → InRange c.args.running.setting
range c = adding-range c.args.running c.args.pairs c.requires

pub overflow_mul-places : goal.overflow_mul-places
overflow_mul-places c = omega (arith, (range (goal.at.overflow_mul-places c).In-Ok).choice.k_high)

pub overflow_sub-places : goal.overflow_sub-places
overflow_sub-places c = omega (arith, (range (goal.at.overflow_sub-places c).In-Ok).choice.k_low)

pub slice_bounds-sums-end : goal.slice_bounds-sums-end
slice_bounds-sums-end c =
    let size : length c.close.new.out ≡ 15 = search rules in
    omega (arith, (range (goal.at.slice_bounds-sums-end c).In-Ok).choice.k_high)

pub slice_bounds-sums_line-end : goal.slice_bounds-sums_line-end
slice_bounds-sums_line-end c =
    let size : length c.close.new.out ≡ 15 = search rules in
    sym (length-take-le _ c.close.new.out (omega (arith, (range (goal.at.slice_bounds-sums_line-end c).In-Ok).choice.k_high)))

pub returns-in-Ok : goal.returns-in-Ok
returns-in-Ok c =
    let all = c.if-running-pairs.false in
    let close = c.close in
    let line = closed-line c.args.running c.args.pairs c.requires (replicate 15 0) close.result close.new.out (omega arith) close.ensures _ c.in-Ok.is all in
    rw line c.sums_line.ensures

pub returns-in-Err : goal.returns-in-Err
returns-in-Err c =
    let close = c.close in
    absurd (closed-never c.args.running c.args.pairs c.requires (replicate 15 0) close.result close.new.out (omega arith) close.ensures _ c.in-Err.is)
