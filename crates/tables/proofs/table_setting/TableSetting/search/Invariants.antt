-- `search` meets its contract: the search from its first place is the search from i, at every turn. Assumes nothing.
use Rattle.std.proofs.Common.{◌≡◌, ◌-◌, ◌≤◌, max}
use Rattle.polynomials.specs.TableLaws.{Stands}
use Rattle.tables.specs.Tables.{table, header_size}
use Rattle.tables.specs.TableLaws.{difference_from}
use Rattle.tables.proofs.table_setting.TableSetting.search.Given as goal

abbrev pub invariant-loop-i : goal.invariant-loop-i
invariant-loop-i l =
    let s = l.self.accepted.setting in
    (difference_from l.buffer (table s.p s.t) l.from ≡ difference_from l.buffer (table s.p s.t) l.i)
    × ((l.from ≤ l.i) × (l.i ≤ max l.from l.to))
    × Stands s.p l.q (l.i - header_size) l.at.u l.at.value
