-- `lane_of` meets its contract. Assumes nothing.
use Rattle.std.proofs.Common.{◌≡◌, ℕ, ◌^◌, ◌<◌, ◌%◌, ◌*◌, arith}
use Rattle.std.proofs.lemmas.Nat.{one_shl}
use Rattle.doubles.specs.Exactly.{may-hold, one-is}
use Rattle.settings.specs.Settings.{base}
use Rattle.lane.specs.LaneLaws.{width_small, base-small}
use Rattle.lane.proofs.lanes.lane_of.Goals as goal

shifted : {t : ℕ} → t < 53 → 1 * 2 ^ t % 2 ^ 64 ≡ 2 ^ t
shifted {t} h = one_shl t 64 (omega (arith, h))

pub int_to_float-q : goal.int_to_float-q
int_to_float-q c =
    let b = c.args.s.bounds in
    rw (shifted (width_small b)) (may-hold (base c.args.s.setting) (base-small b))

pub returns : goal.returns
returns c = rw (shifted (width_small c.args.s.bounds), one-is)
