-- `subtract` meets its contract: after i turns the first i words stand less those that are taken away. Assumes nothing.
use Rattle.std.proofs.Common.{◌≡◌, arith, length-set}
use Rattle.polynomials.specs.IndexLaws.{filled_more}
use Rattle.polynomials.specs.Lists.{coefficient}
use Rattle.labels.specs.WordLaws.{less_at, still-there}
use Rattle.labels.proofs.word_lists.subtract.Goals.{In-loop-i}
use Rattle.labels.proofs.word_lists.subtract.Goals as goal

-- what is read is as it was
kept : (c : In-loop-i) → coefficient c.loop-i.out c.loop-i.i ≡ coefficient c.args.out.now c.loop-i.i
kept c =
    let a = c.args in
    let l = c.loop-i in
    still-there (less_at a.out.now a.xs.now) a.out.now l.out l.i l.invariant.0

pub loop-i-preserved : goal.loop-i-preserved
loop-i-preserved c =
    let a = c.args in
    let l = c.loop-i in (
      filled_more (less_at a.out.now a.xs.now) a.out.now l.out l.i c.take_away.result (omega (arith, l.invariant.1)) l.invariant.0 (rw (← kept (goal.at.loop-i-preserved c).In-loop-i) c.take_away.ensures),
      simp length-set l.invariant.1,
    )
