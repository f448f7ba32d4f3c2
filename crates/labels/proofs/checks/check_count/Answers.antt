-- `check_count` meets its contract: 2 shifted by a level up to 8 loses no bit. Assumes nothing.
use Rattle.std.proofs.Common.{◌^◌, ◌∙◌, add-one, arith, lit<, mul_comm, pow-suc, shl_exact}
use Rattle.labels.proofs.checks.check_count.Goals as goal

pub returns : goal.returns
returns c =
    let level = c.args.level in
    shl_exact 2 level 64 (lit< tt) (omega (arith, c.requires)) ∙ rw (add-one level, pow-suc) (mul_comm 2 (2 ^ level))
