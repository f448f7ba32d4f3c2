-- `search` meets its contract: the search from 0 is the search from i, at every turn. Assumes nothing.
use Rattle.std.proofs.Common.{◌≡◌, ◌/◌, ◌≤◌, ◌<◌, ◌∙◌, length, arith, le-leb, lt-ltb, le-ltb}
use Rattle.std.proofs.Math.Nat.{sub-zero}
use Rattle.std.proofs.lemmas.Bool.{lt-leb}
use Rattle.polynomials.specs.IndexLaws.{first_found, first-passed, first_ended}
use Rattle.polynomials.specs.Lists.{coefficient}
use Rattle.settings.specs.Coefficients.{too_large, first_bad}
use Rattle.jobs.specs.Jobs.{coefficients_in}
use Rattle.jobs.specs.ByteLaws.{length-coefficients_in}
use Rattle.jobs.proofs.bytes.search.Goals as goal

pub loop-i-init : goal.loop-i-init
loop-i-init c = rw (length-coefficients_in c.args.bytes.now, sub-zero (length c.args.bytes.now / 2))

pub returns-then-p-from : goal.returns-then-p-from
returns-then-p-from c =
    let a = c.args in
    let i = c.loop-i.i in
    let cs = coefficients_in a.bytes.now in
    let bad : a.p ≤ coefficient cs i = omega arith in
    let at : first_bad a.p cs ≡ i = c.loop-i.invariant ∙ first_found (too_large a.p cs) (length a.bytes.now / 2) i (omega arith) (le-leb a.p (coefficient cs i) bad) in
    rw (at, lt-ltb i (length cs) (omega (arith, length-coefficients_in a.bytes.now)))

pub loop-i-preserved : goal.loop-i-preserved
loop-i-preserved c =
    let a = c.args in
    let i = c.loop-i.i in
    let cs = coefficients_in a.bytes.now in
    let good : coefficient cs i < a.p = omega arith in
    c.loop-i.invariant ∙ first-passed (too_large a.p cs) (length a.bytes.now / 2) i (omega arith) (lt-leb a.p (coefficient cs i) good)

pub returns : goal.returns
returns c =
    let a = c.args in
    let cs = coefficients_in a.bytes.now in
    let at : first_bad a.p cs ≡ c.loop-i.i = c.loop-i.invariant ∙ first_ended (too_large a.p cs) (length a.bytes.now / 2) c.loop-i.i (omega arith) in
    rw (at, le-ltb c.loop-i.i (length cs) (omega (arith, length-coefficients_in a.bytes.now)))
