-- `put_line` meets its contract. Assumes nothing.
use Rattle.std.proofs.Common.{sym, ◌∙◌}
use Rattle.jobs.specs.FinishLaws.{state-adding}
use Rattle.jobs.proofs.line.put_line.Goals as goal

pub pairs_line-requires : goal.pairs_line-requires
pairs_line-requires c = state-adding c.args.state (sym c.state_cause.ensures ∙ c.if-state_cause.false) c.in-Pairs.is
