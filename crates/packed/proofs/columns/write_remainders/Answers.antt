-- `write_remainders` meets its contract: after j turns the first j remainders stand. Assumes nothing.
use Rattle.std.proofs.Common.{◌%◌, refl, arith, length-set}
use Rattle.polynomials.specs.IndexLaws.{filled_more}
use Rattle.polynomials.specs.Lists.{coefficient}
use Rattle.packed.specs.Gathering.{sum_residue}
use Rattle.packed.proofs.columns.write_remainders.Goals as goal

pub loop-j-preserved : goal.loop-j-preserved
loop-j-preserved c =
    let a = c.args in
    let l = c.loop-j in
    let p = a.s.setting.p in
    (filled_more (sum_residue p a.sums.now) a.out.now l.out l.j (coefficient a.sums.now l.j % p) (omega arith) l.invariant.0 refl, simp length-set l.invariant.1)
