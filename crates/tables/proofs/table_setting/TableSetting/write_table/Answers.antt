-- `write_table` meets its contract: after i turns the first i bytes stand. Assumes nothing.
use Rattle.std.proofs.Common.{arith, length-set}
use Rattle.polynomials.specs.IndexLaws.{filled_more}
use Rattle.polynomials.specs.Lists.{coefficient}
use Rattle.tables.specs.Tables.{table}
use Rattle.tables.specs.TableLaws.{byte-made}
use Rattle.tables.proofs.table_setting.TableSetting.write_table.Goals as goal

pub loop-i-preserved : goal.loop-i-preserved
loop-i-preserved c =
    let a = c.args in
    let s = a.self.accepted.setting in
    let l = c.loop-i in
    let byte = byte-made s.t l.i c.header_bytes-head.ensures c.base_residue-q.ensures.0 (omega arith) l.invariant.2 c.table_byte.ensures in
    (filled_more (coefficient (table s.p s.t)) a.out.now l.out l.i c.table_byte.result (omega (arith, c.requires)) l.invariant.0 byte, simp length-set l.invariant.1, c.following-at.ensures)
