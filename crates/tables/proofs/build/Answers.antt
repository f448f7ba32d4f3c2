-- `build` meets its promise. Assumes nothing.
use Rattle.std.proofs.Common.{◌≡◌, length, sym, ◌∙◌, arith, le-ltb}
use Rattle.settings.specs.Answers.{fine}
use Rattle.settings.specs.SharedAnswers.{writes-list}
use Rattle.tables.specs.Tables.{table, table_size, build_checks}
use Rattle.tables.specs.TableLaws.{table-length}
use Rattle.tables.proofs.build.Goals as goal

pub returns : goal.returns
unfolding build_checks
returns c =
    let a = c.args in
    let s = c.in_ok-s.s.accepted.setting in
    let e = c.in_ok-s.ensures in
    let size = c.table_size-size in
    let checks = build_checks s (length a.out.now) in
    let none-refused : checks ≡ fine = rw (le-ltb (length a.out.now) (table_size s.p) (omega (arith, size.ensures, c.if-out-size.false)), e.1, e.0) in
    rw (← e.1) (writes-list checks size.result (table s.p s.t) a.out.now _ none-refused (table-length s.p s.t ∙ sym size.ensures) (rw size.ensures c.write_table.ensures))
