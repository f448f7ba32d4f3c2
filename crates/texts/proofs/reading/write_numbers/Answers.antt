-- `write_numbers` meets its contract: the numbers before place i stand in the list. Nothing is bad, so looking at a number never finds it too large.
use Rattle.std.proofs.Common.{◌≡◌, ◌<◌, true, arith, length, rules}
use Rattle.polynomials.specs.Lists.{coefficient}
use Rattle.layout.specs.Decimals.{is_digit}
use Rattle.texts.specs.KindLaws.{told-digit, told-no-digit}
use Rattle.texts.specs.RunLaws.{writing-passed, writing-small, writing-room, writing-run, writing-ended}
use Rattle.texts.specs.declared.kinds.Kind.TheVariants.{Digit}
use Rattle.texts.proofs.reading.write_numbers.Goals.{In-Some, Then-eq}
use Rattle.texts.proofs.reading.write_numbers.Goals as goal

digit : (c : Then-eq) → is_digit (coefficient c.args.text.now c.loop-i.i) ≡ true
digit c = told-digit c.kind_of.result _ c.kind_of.ensures (search rules)

pub number_at-requires : goal.number_at-requires
number_at-requires c = (omega arith, digit c)

pub returns-in_default : goal.returns-in_default
returns-in_default c =
    let small = writing-small c.loop-i.invariant c.args.most c.loop-i-test.true (digit (goal.at.returns-in_default c).Then-eq) c.requires in
    absurd (omega (arith, small, c.in_default.ensures))

-- there is room for the number that begins here
room : (c : In-Some) → c.loop-i.n < length c.loop-i.out
room c = omega (arith, writing-room c.loop-i.invariant c.in-Some.ensures.0 c.args.most c.requires, c.loop-i.auto.out)

pub offset_bounds-out-n : goal.offset_bounds-out-n
offset_bounds-out-n c =
    let here = room c in
    search rules

pub bounds-out-n : goal.bounds-out-n
bounds-out-n c = room c

pub overflow_add-n : goal.overflow_add-n
overflow_add-n c =
    let here = room c in
    search rules

pub loop-i-preserved-then-eq : goal.loop-i-preserved-then-eq
loop-i-preserved-then-eq c =
    let w = c.loop-i.invariant in
    let run = c.in-Some.ensures.0 in
    writing-run w run (writing-room w run c.args.most c.requires)

pub loop-i-preserved : goal.loop-i-preserved
loop-i-preserved c =
    let other : c.kind_of.result ≡ Digit → ⊥ = search rules in
    writing-passed c.loop-i.invariant c.loop-i-test.true (told-no-digit c.kind_of.result _ c.kind_of.ensures other)

pub returns : goal.returns
returns c = writing-ended c.loop-i.invariant c.loop-i-test.false
