-- `make_generator` meets its contract: after j places the generator of j - 1 roots stands. Assumes nothing.
use Rattle.std.proofs.Common.{arith, set, length-set}
use Rattle.labels.specs.GeneratorLaws.{making-begun, making-size, making-below, making-turn}
use Rattle.labels.proofs.generator.make_generator.Goals as goal

pub loop-j-init : goal.loop-j-init
loop-j-init c = making-begun c.args.out.now c.requires.0

pub times_root-requires : goal.times_root-requires
times_root-requires c =
    let l = c.loop-j in
    let size = making-size (set c.args.out.now 0 1) l.j l.out l.invariant in
    (l.invariant.some, omega (arith, size), omega (arith, size, length-set c.args.out.now 0 1, c.requires.1), making-below (set c.args.out.now 0 1) l.j l.out l.invariant)

pub loop-j-preserved : goal.loop-j-preserved
loop-j-preserved c =
    let l = c.loop-j in
    let w = c.times_root in
    let size = making-size (set c.args.out.now 0 1) l.j l.out l.invariant in
    making-turn (set c.args.out.now 0 1) l.j l.out l.invariant w.new.out (omega (arith, size, c.loop-j-test.true)) w.ensures
