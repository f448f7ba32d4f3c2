-- A label is the only one. Assumes nothing.
--     label-only            no other check words after the data words make a multiple of the generator
use Rattle.std.specs.Prelude.{ℕ, ◌≡◌, List, ◌++◌, reverse, length, replicate}
use Rattle.std.proofs.Common.{sym, ap, ◌∙◌, arith}
use Rattle.std.proofs.lemmas.List.{reverse-append, reverse-reverse, length-reverse}
use Rattle.polynomials.specs.Lists.{product, Below}
use Rattle.divisions.specs.Divisions.{Same, quotient, remainder}
use Rattle.divisions.specs.CongruenceLaws.{less-below}
use Rattle.divisions.specs.DivisionLaws.{multiples-agree}
use Rattle.divisions.specs.ReverseLaws.{reverse-below}
use Rattle.divisions.specs.ValueLaws.{roots-monic}
use Rattle.labels.specs.Labels.{modulus, check_count, root, generator, carried, label}
use Rattle.labels.specs.Working.{opposites, check_words}
use Rattle.labels.specs.LabelLaws.{label-words, check-length, label-multiple}

check-below : (m : ℕ) (content : List ℕ) → Below modulus (check_words m content)
unfolding check_words
check-below m content =
    let r : List ℕ = remainder modulus (generator m) (carried m content) in
    reverse-below modulus (opposites r) (less-below modulus (replicate (length r) 0) r (omega arith))

pub label-only : (s : ℕ) (content checks q : List ℕ) → Below modulus content → Below modulus checks → length checks ≡ check_count s
    → Same modulus (reverse (content ++ checks)) (product q (generator (check_count s))) → content ++ checks ≡ label s content
label-only s content checks q below checks-below size e =
    let m : ℕ = check_count s in
    let written : List ℕ = check_words m content in
    let turned : reverse checks ≡ reverse written = multiples-agree modulus m (generator m) (reverse checks) (reverse written) (reverse content) q (quotient modulus (generator m) (carried m content))
    (omega arith) (roots-monic modulus root m (omega arith)) (length-reverse checks ∙ size) (length-reverse written ∙ check-length m content)
    (reverse-below modulus checks checks-below) (reverse-below modulus written (check-below m content))
    (rw (reverse-append content checks) at e) (rw (label-words s content below, reverse-append content written) at (label-multiple s content)) in
    rw (label-words s content below) (ap (λ (xs : List ℕ). content ++ xs) (sym (reverse-reverse checks) ∙ ap reverse turned ∙ reverse-reverse written))
