-- What `read` hands back is within the list: the numbers stand there. Assumes nothing.
use Rattle.std.proofs.Common.{ℕ, List, ◌≡◌, ◌≤◌, ◌++◌, length, drop, Result, Ok, arith, length-append, sym, ap, ◌∙◌}
use Rattle.std.proofs.lemmas.List.{length-take-le}
use Rattle.texts.specs.Reading.{left_of, ReadsNumbers}
use Rattle.texts.specs.ReadingLaws.{counted-all}
use Rattle.texts.specs.declared.reading.Stop.{Stop}
use Rattle.calc.proofs.numbers.read.Goals as goal

-- of an outcome that is a count
some_left : (ns old after : List ℕ) (r : Result ℕ Stop) (n : ℕ) → r ≡ Ok n → after ≡ left_of r ns old → n ≡ length ns → n ≤ length after
some_left ns old after r n e left count =
    let size : length after ≡ length (ns ++ drop (length ns) old) = ap length (left ∙ ap (λ r. left_of r ns old) e) in
    omega (arith, length-append ns (drop (length ns) old))

within : (most : ℕ) (cs old after : List ℕ) (n : ℕ) → ReadsNumbers most cs old (Ok n) after → n ≤ length after
within most cs old after n r = some_left _ old after _ n (sym r.answer) r.list (counted-all most (length old) cs n (sym r.answer))

pub slice_bounds-result-end : goal.slice_bounds-result-end
slice_bounds-result-end c = sym (length-take-le _ _ (within _ _ _ _ _ c.in-Ok.ensures))
