-- `put_line` meets its contract: there is room for every line, so finish answers its length and leaves it in the list. Assumes nothing.
use Rattle.std.proofs.Common.{◌≡◌, ℕ, refl, length, Result, Ok, ap, ◌∙◌, arith, le-ltb}
use Rattle.std.specs.Result.{result_unwrap_or}
use Rattle.settings.specs.Answers.{answered, fine}
use Rattle.settings.specs.Refusals.{says-once}
use Rattle.settings.specs.declared.refusals.Refusal.{Refusal}
use Rattle.jobs.specs.States.{line_of, finish_checks}
use Rattle.jobs.specs.FinishLaws.{line-fits}
use Rattle.job.proofs.put_line.Goals as goal

pub returns : goal.returns
returns c =
    let line = line_of c.args.state in
    let old = c.args.line.now in
    let fits : finish_checks line (length old) ≡ fine = rw (le-ltb (length old) (length line) (omega (arith, c.requires, line-fits c.args.state))) in
    let done : c.finish.result ≡ Ok (length line) = says-once c.finish.result (Ok (length line)) (answered (length line)) (rw fits at c.finish.ensures.0) refl in
    let size : c.unwrap_or.result ≡ length line = c.unwrap_or.ensures ∙ ap (λ (r : Result ℕ Refusal). result_unwrap_or r 0) done in
    (size, rw size (rw fits at c.finish.ensures.1))
