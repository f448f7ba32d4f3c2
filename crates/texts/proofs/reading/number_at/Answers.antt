-- `number_at` meets its contract: the digits up to where it stands come to value, which is not above most. Assumes nothing.
use Rattle.std.proofs.Common.{◌≡◌, true, arith, rules}
use Rattle.polynomials.specs.Lists.{coefficient}
use Rattle.layout.specs.Decimals.{is_digit}
use Rattle.texts.specs.KindLaws.{digit-bounds, told-digit, told-no-digit}
use Rattle.texts.specs.RunLaws.{going-turn, going-stops, going-larger}
use Rattle.texts.specs.declared.kinds.Kind.TheVariants.{Digit}
use Rattle.texts.proofs.reading.number_at.Goals.{Else-ne}
use Rattle.texts.proofs.reading.number_at.Goals as goal

pub returns-then-ne : goal.returns-then-ne
returns-then-ne c =
    let l = c.loop-end in
    let other : c.kind_of.result ≡ Digit → ⊥ = search rules in
    (going-stops l.invariant.0 (omega arith) c.requires.1 (told-no-digit c.kind_of.result _ c.kind_of.ensures other), l.invariant.1)

-- what stands where it is
digit : (c : Else-ne) → is_digit (coefficient c.args.text.now c.loop-end.end) ≡ true
digit c = told-digit c.kind_of.result _ c.kind_of.ensures (search rules)

pub returns-then-most-value : goal.returns-then-most-value
returns-then-most-value c = omega (arith, going-larger c.loop-end.invariant.0 c.loop-end-test.true (digit (goal.at.returns-then-most-value c).Else-ne))

pub overflow_sub-code : goal.overflow_sub-code
overflow_sub-code c =
    let d = digit (goal.at.overflow_sub-code c).Else-ne in
    omega (arith, digit-bounds)

pub returns-then-most-tens : goal.returns-then-most-tens
returns-then-most-tens c = omega (arith, going-larger c.loop-end.invariant.0 c.loop-end-test.true (digit (goal.at.returns-then-most-tens c).Else-ne))

pub loop-end-preserved : goal.loop-end-preserved
loop-end-preserved c = (rw c.from-digit.ensures (going-turn c.loop-end.invariant.0 c.loop-end-test.true (digit (goal.at.loop-end-preserved c).Else-ne)), omega arith)
