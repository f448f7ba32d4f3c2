-- `first_difference` meets its contract: where the two searches find nothing, what differs is the buffer's end, or nothing. Assumes nothing.
use Rattle.std.proofs.Common.{ℕ, ◌≡◌, ◌≤◌, List, ap, ◌∙◌, arith, length, max, min, lt-ltb, le-ltb}
use Rattle.std.proofs.Math.Decide.{dec_le}
use Rattle.std.proofs.Math.Nat.{sub-zero}
use Rattle.polynomials.specs.IndexLaws.{first_found, first_ended}
use Rattle.layout.specs.Beginnings.{differs_at, differs-ended, first_difference}
use Rattle.tables.specs.Tables.{header_size, table, table_size}
use Rattle.tables.specs.TableLaws.{table-length, difference_from}
use Rattle.tables.proofs.table_setting.TableSetting.first_difference.Goals as goal

-- two searches that find nothing, up to the header's end and from there on, are one that finds nothing up to the end
both : (buf bs : List ℕ) (m end : ℕ) → m ≡ min header_size end → difference_from buf bs 0 ≡ difference_from buf bs (max 0 m)
    → difference_from buf bs header_size ≡ difference_from buf bs (max header_size end) → first_difference buf bs ≡ difference_from buf bs end
both buf bs m end is first second = from-0 ∙ first ∙ go (dec_le header_size end)
  where
    from-0 : first_difference buf bs ≡ difference_from buf bs 0
    from-0 = rw sub-zero

    go : Dec (header_size ≤ end) → difference_from buf bs (max 0 m) ≡ difference_from buf bs end
    go (yes h) =
        let header : max 0 m ≡ header_size = omega (arith, is) in
        let last : max header_size end ≡ end = omega arith in
        ap (difference_from buf bs) header ∙ second ∙ ap (difference_from buf bs) last
    go (no h) =
        let last : max 0 m ≡ end = omega (arith, is) in
        ap (difference_from buf bs) last

pub returns-then-end-size : goal.returns-then-end-size
returns-then-end-size c =
    let s = c.args.self.accepted.setting in
    let bs = table s.p s.t in
    let buf = c.args.buffer.now in
    let end = c.min-end.result in
    let ended : length buf ≤ end = omega (arith, c.min-end.ensures) in
    let at : first_difference buf bs ≡ end = both buf bs c.min.result end c.min.ensures c.in_default.ensures c.in_default-search.ensures ∙ first_found (differs_at buf bs) (length bs) end (omega (arith, table-length s.p s.t)) (differs-ended buf bs end ended) in
    rw (at, lt-ltb end (table_size s.p) (omega arith))

pub returns-else-end-size : goal.returns-else-end-size
returns-else-end-size c =
    let s = c.args.self.accepted.setting in
    let bs = table s.p s.t in
    let buf = c.args.buffer.now in
    let end = c.min-end.result in
    let at : first_difference buf bs ≡ end = both buf bs c.min.result end c.min.ensures c.in_default.ensures c.in_default-search.ensures ∙ first_ended (differs_at buf bs) (length bs) end (omega (arith, table-length s.p s.t)) in
    rw (at, le-ltb end (table_size s.p) (omega arith))
