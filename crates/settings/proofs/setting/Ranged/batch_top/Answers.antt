-- `batch_top` meets its contract: the products fit, since p, k and n are in range. Assumes nothing.
use Rattle.std.proofs.Common.{mul-le-mul, lt_of_le_of_lt, arith}
use lib.Dec.{lit<}
use Rattle.settings.specs.Limits.{largest_modulus, most_coefficients, largest_batch}
use Rattle.settings.proofs.setting.Ranged.batch_top.Goals as goal

pub overflow_mul-result-3 : goal.overflow_mul-result-3
overflow_mul-result-3 c =
    record {
      fits = lt_of_le_of_lt
          (mul-le-mul (mul-le-mul {n₂ = largest_batch} {m₂ = most_coefficients} (omega arith) (omega arith)) (mul-le-mul {n₂ = largest_modulus} {m₂ = largest_modulus} (omega arith) (omega arith)))
          (lit< tt);
    }
