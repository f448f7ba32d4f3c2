-- `following` meets its contract: i - 8 stays 0 up to the header's end, and grows by one past it. Assumes nothing.
use Rattle.std.proofs.Common.{◌≡◌, ◌+◌, ◌-◌, arith}
use Rattle.tables.specs.Tables.{header_size}
use Rattle.tables.proofs.table_setting.TableSetting.following.Goals as goal

pub returns-else-i-lt-HEADER_SIZE : goal.returns-else-i-lt-HEADER_SIZE
returns-else-i-lt-HEADER_SIZE c =
    let i = c.args.i in
    let on : i + 1 - header_size ≡ i - header_size + 1 = omega arith in
    rw on (c.next_entry.ensures (i - header_size) c.requires.1)
