-- `other_doubles` meets its contract: a made double is a number. Assumes nothing.
use Rattle.std.proofs.Common.{arith}
use Rattle.doubles.specs.Bits.{double-number, inverse-number}
use Rattle.settings.specs.Settings.{base}
use Rattle.lane.specs.LaneLaws.{modulus-small, base-small}
use Rattle.lane.proofs.lanes.other_doubles.Goals as goal

pub differ-requires : goal.differ-requires
differ-requires c = rw c.lane_of-made.ensures (double-number c.args.s.setting.p (modulus-small c.args.s.bounds))

pub differ-requires-else-differ : goal.differ-requires-else-differ
differ-requires-else-differ c = rw c.lane_of-made.ensures (double-number (base c.args.s.setting) (base-small c.args.s.bounds))

pub differ-requires-else-differ-2 : goal.differ-requires-else-differ-2
differ-requires-else-differ-2 c =
    let choice = c.args.s.bounds.bounded.range.choice in
    rw c.lane_of-made.ensures (inverse-number c.args.s.setting.p (omega (arith, choice.p_low)) choice.p_high)
