-- `times_root` meets its contract: the library's product of what stands there and x - 3^j. Assumes nothing.
use Rattle.std.proofs.Common.{◌+◌, ◌≡◌, arith, replicate, take}
use Rattle.polynomials.specs.Lists.{coefficient}
use Rattle.polynomials.specs.ListLaws.{coefficients}
use Rattle.labels.specs.Labels.{most_checks, power}
use Rattle.labels.specs.RootLaws.{table_at, table_below}
use Rattle.labels.specs.GeneratorLaws.{longer-size, root-written}
use Rattle.labels.proofs.generator.times_root.Goals.{Start}
use Rattle.labels.proofs.generator.times_root.Goals as goal

-- what stands at j in the table
entry : (c : Start) → coefficient c.args.powers.now.table c.args.j ≡ power c.args.j
entry c = rw c.args.powers.now.all (table_at c.args.j (omega (arith, c.requires.1, c.requires.2)))

pub take_away-requires : goal.take_away-requires
take_away-requires c = (omega arith, rw c.args.powers.now.all (table_below c.args.j))

pub returns : goal.returns
returns c =
    let x = c.take_away in
    let m = c.product in
    let h = c.requires in
    let y = coefficient c.args.powers.now.table c.args.j in
    let old = replicate (most_checks + 1) 0 in
    let size = longer-size c.args.j y x.result c.args.out.now old m.new.out m.result h.0 h.1 h.2 h.3 (omega arith) (entry (goal.at.returns c).Start) x.ensures m.ensures in
    root-written c.args.j y x.result c.args.out.now old m.new.out m.result h.0 h.1 h.2 h.3 (omega arith) (entry (goal.at.returns c).Start) x.ensures m.ensures _
    (rw (c.copy_from_slice.ensures.after, coefficients (take (c.args.j + 1) m.new.out), size))
