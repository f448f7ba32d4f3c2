-- `make_generator` meets its contract: after j places the generator of j - 1 roots stands. Assumes nothing.
use Rattle.labels.specs.GeneratorLaws.{GeneratorUpTo}
use Rattle.labels.proofs.generator.make_generator.Given as goal

abbrev pub invariant-loop-j : goal.invariant-loop-j
invariant-loop-j l = GeneratorUpTo l.initial.out l.j l.out
