-- `search` meets its contract: the search from its first place is the search from i, at every turn. Assumes nothing.
use Rattle.std.proofs.Common.{◌≡◌, ◌+◌, length, sym, ◌∙◌, arith}
use Rattle.polynomials.specs.IndexLaws.{first_found, first-passed}
use Rattle.polynomials.specs.Lists.{coefficient}
use Rattle.layout.specs.Beginnings.{differs_at, differs-byte, agrees}
use Rattle.tables.specs.Tables.{table}
use Rattle.tables.specs.TableLaws.{table-length, byte-made, difference_from}
use Rattle.tables.proofs.table_setting.TableSetting.search.Goals as goal

pub returns-then-buffer-i : goal.returns-then-buffer-i
returns-then-buffer-i c =
    let s = c.args.self.accepted.setting in
    let bs = table s.p s.t in
    let buf = c.args.buffer.now in
    let l = c.loop-i in
    let pre = c.requires.numbers in
    let made : coefficient buf l.i ≡ coefficient bs l.i → ⊥ = λ e. c.if-buffer-i.true (e ∙ sym (byte-made s.t l.i pre.0 pre.1 (omega arith) l.invariant.2 c.table_byte.ensures)) in
    (l.invariant.0 ∙ first_found (differs_at buf bs) (length bs) l.i (omega (arith, table-length s.p s.t)) (differs-byte buf bs l.i made), (omega arith, omega arith))

pub loop-i-preserved : goal.loop-i-preserved
loop-i-preserved c =
    let s = c.args.self.accepted.setting in
    let bs = table s.p s.t in
    let buf = c.args.buffer.now in
    let l = c.loop-i in
    let pre = c.requires.numbers in
    let same : coefficient buf l.i ≡ coefficient bs l.i = c.if-buffer-i.false ∙ byte-made s.t l.i pre.0 pre.1 (omega arith) l.invariant.2 c.table_byte.ensures in
    let passed : difference_from buf bs l.i ≡ difference_from buf bs (l.i + 1) = first-passed (differs_at buf bs) (length bs) l.i (omega (arith, table-length s.p s.t)) ((agrees buf bs l.i).1 (omega arith, same)) in
    (l.invariant.0 ∙ passed, (omega arith, omega arith), c.following-at.ensures)
