-- `next_entry` meets its contract: u goes on by one, or begins anew. Assumes nothing.
use Rattle.std.proofs.Common.{◌≡◌, ◌+◌, arith}
use Rattle.polynomials.specs.TableLaws.{stands-beside, stands-anew}
use Rattle.tables.proofs.table_setting.TableSetting.next_entry.Goals as goal

pub returns-then-at-p : goal.returns-then-at-p
returns-then-at-p c = λ j s. rw c.one_more-more.ensures.0 (stands-beside (omega arith) (omega arith) s c.if-at-p.true)

pub returns-else-at-p : goal.returns-else-at-p
returns-else-at-p c =
    let a = c.args in
    let end : a.at.u + 1 ≡ a.self.accepted.setting.p = omega arith in
    λ j s. rw (c.wrapped.ensures.0, c.one_more-more.ensures.0) (stands-anew (omega arith) (omega arith) s end)
