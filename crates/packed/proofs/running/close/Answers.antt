-- `close` meets its promise. Assumes nothing.
use Rattle.std.proofs.Common.{◌≡◌, length, rules, arith}
use Rattle.settings.specs.Limits.{residue_places}
use Rattle.packed.specs.RunningChecks.{close-checked}
use Rattle.packed.proofs.running.close.Goals as goal

pub add_residues-requires : goal.add_residues-requires
add_residues-requires c =
    let s = c.in_ok-s.ensures in
    let size : length c.args.running.sum.residues ≡ residue_places = search rules in
    (omega (arith, size, c.in_ok-s.s.bounds.range.choice.k_high), rw s.1 (close-checked c.args.running (length c.args.out.now) s.0).1)

pub rounded_up-requires : goal.rounded_up-requires
rounded_up-requires c =
    let choice = c.in_ok-s.s.bounds.range.choice in
    (omega (arith, choice.n_low, choice.k_low), omega (arith, choice.n_high, choice.k_high), (close-checked c.args.running (length c.args.out.now) c.in_ok-s.ensures.0).0.few)
