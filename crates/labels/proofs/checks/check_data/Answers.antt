-- `check_data` meets its contract: no level has more check words than a label has words. Assumes nothing.
use Rattle.std.proofs.Common.{arith}
use Rattle.labels.specs.CheckLaws.{count_most}
use Rattle.labels.proofs.checks.check_data.Goals as goal

pub overflow_sub-m : goal.overflow_sub-m
overflow_sub-m c = rw c.check_count-m.ensures (omega (arith, count_most c.args.level (omega arith)))
