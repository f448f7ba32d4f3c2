-- `check_pairs` meets its contract. Assumes nothing.
use Rattle.std.proofs.Common.{length, arith, div-le_self}
use Rattle.settings.specs.Bounds.{bounds}
use Rattle.packed.specs.RunningLaws.{coherent-is}
use Rattle.packed.proofs.running.check_pairs.Goals as goal

pub nonzero_rem-xs : goal.nonzero_rem-xs
nonzero_rem-xs c = (bounds _ ((coherent-is _).0 c.requires).accepted).range.choice.k_low

-- a record takes no more than so many pairs, and a list is in memory
pub overflow_add-running : goal.overflow_add-running
overflow_add-running c =
    let r = c.args.running in
    omega (arith, ((coherent-is r).0 c.requires).few, div-le_self (length c.args.xs.now) r.setting.k, c.well_formed.1.0.1)

pub nonzero_div-xs : goal.nonzero_div-xs
nonzero_div-xs c = (bounds _ ((coherent-is _).0 c.requires).accepted).range.choice.k_low
