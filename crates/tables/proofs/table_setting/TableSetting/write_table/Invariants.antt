-- `write_table` meets its contract: after i turns the first i bytes stand. Assumes nothing.
use Rattle.std.proofs.Common.{◌≡◌, ◌-◌, length}
use Rattle.polynomials.specs.Indices.{filled}
use Rattle.polynomials.specs.Lists.{coefficient}
use Rattle.polynomials.specs.TableLaws.{Stands}
use Rattle.tables.specs.Tables.{table, header_size}
use Rattle.tables.proofs.table_setting.TableSetting.write_table.Given as goal

abbrev pub invariant-loop-i : goal.invariant-loop-i
invariant-loop-i l =
    let s = l.self.accepted.setting in
    (l.out ≡ filled l.i (coefficient (table s.p s.t)) l.initial.out) × (length l.out ≡ length l.initial.out) × Stands s.p l.q (l.i - header_size) l.at.u l.at.value
