-- `sum` meets its contract. Assumes nothing.
use Rattle.std.proofs.Common.{sym, rules}
use Rattle.lane.specs.SumLaws.{summing}
use Rattle.lane.proofs.sum.Goals as goal

pub add_products-requires : goal.add_products-requires
add_products-requires c =
    let a = c.args in
    summing a.lane a.xs.now a.ys.now (record { modulus = search rules; base = search rules; inverse = search rules }) (sym c.in_ok-check_sum.ensures)
