-- `coefficient_at` meets its contract. Assumes nothing.
use Rattle.std.proofs.Common.{arith}
use Rattle.jobs.specs.ByteLaws.{coefficients_in-at}
use Rattle.jobs.proofs.bytes.coefficient_at.Goals as goal

pub returns : goal.returns
returns c = omega (arith, coefficients_in-at c.args.bytes.now c.args.i c.requires)
