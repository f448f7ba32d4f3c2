-- `powers_of_three` meets its contract: its table passes the test of a table of powers, which is computed here over the whole table. Assumes nothing.
use Rattle.std.proofs.Common.{refl}
use Rattle.labels.specs.RootLaws.{table_is}
use Rattle.labels.proofs.powers.powers_of_three.Goals as goal

pub invariant_of-result : goal.invariant_of-result
invariant_of-result c = record { all = table_is _ refl tt }
