-- `first_bad` meets its contract: where the largest is below p there is none. Assumes nothing.
use Rattle.std.proofs.Common.{ℕ, ◌<◌, List, length, None, le-ltb, arith, lt_of_le_of_lt}
use Rattle.std.proofs.lemmas.Bool.{lt-leb}
use Rattle.polynomials.specs.IndexLaws.{first-none}
use Rattle.polynomials.specs.Lists.{coefficient}
use Rattle.settings.specs.Coefficients.{too_large, NoneAbove, FindsBad}
use Rattle.jobs.specs.Jobs.{coefficients_in}
use Rattle.jobs.proofs.bytes.first_bad.Goals as goal

-- no coefficient is above the largest, which is below p
none : (p most : ℕ) (xs : List ℕ) → most < p → NoneAbove most xs → FindsBad p xs None
none p most xs h all = rw (le-ltb _ _ ((first-none (too_large p xs) (length xs)).1 (λ j l. lt-leb p (coefficient xs j) (lt_of_le_of_lt (all.each j) h))))

pub returns-then-from-p : goal.returns-then-from-p
returns-then-from-p c = none c.args.p c.largest.result (coefficients_in c.args.bytes.now) (omega arith) c.largest.ensures
