-- `check_numbers` meets its contract: no place before i is bad, and n numbers stand there. Assumes nothing.
use Rattle.std.proofs.Common.{◌≡◌, true, sym, arith}
use Rattle.polynomials.specs.Lists.{coefficient}
use Rattle.layout.specs.Decimals.{is_digit}
use Rattle.texts.specs.KindLaws.{told-digit, told-no-digit, told-blank, told-stray}
use Rattle.texts.specs.RunLaws.{sought-blank, sought-run, sought-stray, sought-large, sought-many, sought-ended}
use Rattle.texts.proofs.reading.check_numbers.Goals.{In-Digit}
use Rattle.texts.proofs.reading.check_numbers.Goals as goal

digit : (c : In-Digit) → is_digit (coefficient c.args.text.now c.loop-i.i) ≡ true
digit c = told-digit c.kind_of.result _ c.kind_of.ensures c.in-Digit.is

pub number_at-requires : goal.number_at-requires
number_at-requires c = (omega arith, digit c)

pub returns-in_default-number_at : goal.returns-in_default-number_at
returns-in_default-number_at c =
    sym (sought-large c.loop-i.invariant c.loop-i-test.true (digit (goal.at.returns-in_default-number_at c).In-Digit) c.in_default-number_at.ensures)

pub returns-then-n-room : goal.returns-then-n-room
returns-then-n-room c =
    let run = c.in-Some.ensures in
    sym (sought-many c.loop-i.invariant c.loop-i-test.true run.0 run.1 (omega arith))

pub loop-i-preserved-in-Digit : goal.loop-i-preserved-in-Digit
loop-i-preserved-in-Digit c =
    let run = c.in-Some.ensures in
    sought-run c.loop-i.invariant run.0 run.1 (omega (arith, c.loop-i.invariant.fits, c.if-n-room.false))

pub loop-i-preserved : goal.loop-i-preserved
loop-i-preserved c =
    let kind = c.kind_of.ensures in
    sought-blank c.loop-i.invariant c.loop-i-test.true (told-blank c.kind_of.result _ kind c.in-Blank.is) (told-no-digit c.kind_of.result _ kind (λ e. cc))

pub returns-in_default : goal.returns-in_default
returns-in_default c =
    sym (sought-stray c.loop-i.invariant c.loop-i-test.true (told-stray c.kind_of.result _ c.kind_of.ensures c.in_default.not-Digit c.in_default.not-Blank))

pub returns : goal.returns
returns c = sym (sought-ended c.loop-i.invariant c.loop-i-test.false)
