-- `declared_pairs` meets its contract. Assumes nothing.
use Rattle.std.proofs.Common.{arith}
use Rattle.settings.specs.Bounds.{bounds}
use Rattle.jobs.specs.HeaderLaws.{Header, header-passed}
use Rattle.jobs.proofs.header.declared_pairs.Goals.{Start}
use Rattle.jobs.proofs.header.declared_pairs.Goals as goal

-- the header is accepted
header : (c : Start) → Header c.args.header.now
header c = header-passed c.args.header.now c.requires

pub overflow_sub-result : goal.overflow_sub-result
overflow_sub-result c = rw c.four.ensures (header (goal.at.overflow_sub-result c).Start).counted

pub pair_bytes-requires : goal.pair_bytes-requires
pair_bytes-requires c = rw c.one.ensures (bounds _ (header (goal.at.pair_bytes-requires c).Start).accepted).range.choice.k_high

pub nonzero_div-result : goal.nonzero_div-result
nonzero_div-result c = let low = (bounds _ (header (goal.at.nonzero_div-result c).Start).accepted).range.choice.k_low in omega (arith, low, c.pair_bytes.ensures, c.one.ensures)
