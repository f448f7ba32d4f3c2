-- `accept` meets its contract: where check refuses nothing the setting has its bounds. Assumes nothing.
use Rattle.std.proofs.Common.{sym}
use Rattle.settings.specs.Bounds.{bounds}
use Rattle.settings.proofs.setting.accept.Goals as goal

pub invariant_of-result : goal.invariant_of-result
invariant_of-result c = record { bounds = bounds c.args.s (sym c.in_ok-check.ensures) }
