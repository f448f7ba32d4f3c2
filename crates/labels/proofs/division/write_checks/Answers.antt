-- `write_checks` meets its contract: the first places of its arrays are what the work is done with. Assumes nothing.
use Rattle.std.proofs.Common.{◌+◌, ◌≡◌, ap, ◌∙◌, arith, length, take_at}
use Rattle.divisions.specs.ValueLaws.{length-with_roots}
use Rattle.labels.specs.Labels.{modulus, most_checks, most_words, root, generator}
use Rattle.labels.specs.CheckWordLaws.{zeros-first, made-generator}
use Rattle.labels.proofs.division.write_checks.Goals.{After-make_generator}
use Rattle.labels.proofs.division.write_checks.Goals as goal

made : (c : After-make_generator) → c.make_generator.new.out ≡ generator (length c.args.out.now)
made c = made-generator (length c.args.out.now) (most_checks + 1) c.make_generator.new.out (omega (arith, c.requires.places)) c.make_generator.ensures

made-size : (c : After-make_generator) → length c.make_generator.new.out ≡ length c.args.out.now + 1
made-size c = ap length (made c) ∙ length-with_roots modulus root (length c.args.out.now) ∙ omega arith

pub write_checks_in-requires : goal.write_checks_in-requires
write_checks_in-requires c =
    record {
      room = c.requires;
      divisor = take_at c.make_generator.new.out _ _ (made-size (goal.at.write_checks_in-requires c).After-make_generator) ∙ made (goal.at.write_checks_in-requires c).After-make_generator;
      zeros = zeros-first (length c.args.out.now + length c.args.content.now) most_words (omega (arith, c.requires.few));
    }
