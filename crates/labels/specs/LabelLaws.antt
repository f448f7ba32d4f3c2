-- Laws of labels. Assumes nothing.
--     vanishes-exactly      the test for a polynomial that vanishes holds exactly where it is zero at each root
--     label-words           a label is the data words, and then the check words
--     check-length          m check words
--     label-put             the data words copied, and the check words put after them, make it
--     label-length, label-below
--                           so many words it has, all below 929
--     label-multiple        the label's polynomial is a multiple of the generator
--     written-passes        what is written passes
use Rattle.std.specs.Prelude.{ℕ, ◌+◌, ◌-◌, ◌≤◌, ◌<◌, ◌≡◌, true, ◌↔◌, List, ◌++◌, reverse, length, replicate, take, drop}
use Rattle.std.proofs.Common.{sym, ◌∙◌, append_assoc, arith, length-append, drop-drop}
use Rattle.std.proofs.lemmas.List.{reverse-append, reverse-reverse, length-replicate, length-reverse}
use Rattle.std.proofs.Math.Decide.{dec_lt}
use Rattle.std.proofs.Math.ListN.{get_or-append}
use Rattle.std.proofs.Math.Seq.{take-append_seam, drop-append_seam}
use Rattle.std.proofs.lemmas.Bool.{not-true}
use Rattle.polynomials.specs.Indices.{filled, exceeds}
use Rattle.polynomials.specs.IndexLaws.{exceeds-none}
use Rattle.polynomials.specs.Lists.{coefficient, Below, product}
use Rattle.polynomials.specs.ListLaws.{coefficients, lists_agree, coefficient-past, coefficient-after}
use Rattle.divisions.specs.Divisions.{Same, less, quotient, remainder}
use Rattle.divisions.specs.CongruenceLaws.{minus-zero, length-less, coefficient-less, less-below}
use Rattle.divisions.specs.DivisionLaws.{remainder-length, multiple}
use Rattle.divisions.specs.ReverseLaws.{reverse-below}
use Rattle.divisions.specs.ValueLaws.{value_same, value-multiple, length-with_roots, roots-monic, roots-vanish}
use Rattle.labels.specs.Labels.{modulus, check_count, root, generator, carried, label, value_at, vanishing, Vanishes, passes}
use Rattle.labels.specs.Working.{opposites, check_words}
use Rattle.labels.specs.WordLaws.{length-opposites}
use Rattle.labels.specs.CheckWordLaws.{length-carried}

pub vanishes-exactly : (m : ℕ) (a : List ℕ) → (vanishing m a ≡ true) ↔ Vanishes m a
unfolding vanishing
vanishes-exactly m a = (
  λ e. record {
    each = λ j low high.
        let before : j - 1 + 1 ≡ j = omega arith in
        let at : value_at a (j - 1 + 1) ≤ 0 = (exceeds-none m (λ j. value_at a (j + 1)) (λ j. 0)).0 (not-true (exceeds m (λ j. value_at a (j + 1)) (λ j. 0)) e) (j - 1) (omega arith) in
        let none : value_at a (j - 1 + 1) ≡ 0 = omega (arith, at) in
        rw before at none;
  },
  λ v. rw ((exceeds-none m (λ j. value_at a (j + 1)) (λ j. 0)).1 (λ j l. omega (arith, v.each (j + 1) (omega arith) (omega arith)))),
)

-- ---- what a label is

-- what stands from x^m on is as it was, where r ends there
module _ (p m : ℕ) (xs r : List ℕ) (size : length r ≡ m) (below : Below p xs) where
  abbrev zeros : List ℕ
  zeros = replicate m 0

  length-zeros : length zeros ≡ m
  length-zeros = length-replicate m 0

  length-all : length (zeros ++ xs) ≡ m + length xs
  length-all = length-append zeros xs ∙ rw length-zeros

  at : (j : ℕ) → j < m + length xs → Dec (j < m) → coefficient (less p (zeros ++ xs) r) j ≡ coefficient (less p zeros r ++ xs) j
  at j l (yes h) =
      coefficient-less p (zeros ++ xs) r j (rw length-all l)
      ∙ rw (get_or-append zeros xs 0 j (rw length-zeros h)) (sym (get_or-append (less p zeros r) xs 0 j (rw (length-less p zeros r, length-zeros) h) ∙ coefficient-less p zeros r j (rw length-zeros h)))
  at j l (no h) =
      coefficient-less p (zeros ++ xs) r j (rw length-all l)
      ∙ rw (coefficient-past r j (rw size (omega arith)), coefficient-after zeros xs j (rw length-zeros (omega arith)), coefficient-after (less p zeros r) xs j (rw (length-less p zeros r, length-zeros) (omega arith)), length-less p zeros r)
      (minus-zero p (coefficient xs (j - length zeros)) (below (j - length zeros)))

  carried-less : less p (zeros ++ xs) r ≡ less p (replicate (length r) 0) r ++ xs
  carried-less =
      rw size
      let size-left : length (less p (zeros ++ xs) r) ≡ m + length xs = length-less p (zeros ++ xs) r ∙ length-all in
      let size-right : length (less p zeros r ++ xs) ≡ m + length xs = length-append (less p zeros r) xs ∙ rw (length-less p zeros r, length-zeros) in
      lists_agree (less p (zeros ++ xs) r) (less p zeros r ++ xs) (size-left ∙ sym size-right) (λ j l. at j (rw size-left at l) (dec_lt j m))

length_rest : (m : ℕ) (a : List ℕ) → length (remainder modulus (generator m) a) ≡ m
length_rest m a = remainder-length modulus (generator m) a ∙ rw (length-with_roots modulus root m) (omega arith)

pub label-words : (s : ℕ) (content : List ℕ) → Below modulus content → label s content ≡ content ++ check_words (check_count s) content
unfolding label check_words
label-words s content below =
    let m : ℕ = check_count s in
    let r : List ℕ = remainder modulus (generator m) (carried m content) in
    rw (carried-less modulus m (reverse content) r (length_rest m (carried m content)) (reverse-below modulus content below), reverse-append (opposites r) (reverse content), reverse-reverse content)

pub check-length : (m : ℕ) (content : List ℕ) → length (check_words m content) ≡ m
unfolding check_words
check-length m content =
    let r : List ℕ = remainder modulus (generator m) (carried m content) in
    length-reverse (opposites r) ∙ length-opposites r ∙ length_rest m (carried m content)

pub label-length : (s : ℕ) (content : List ℕ) → length (label s content) ≡ length content + check_count s
unfolding label
label-length s content =
    let a : List ℕ = carried (check_count s) content in
    let r : List ℕ = remainder modulus (generator (check_count s)) a in
    length-reverse (less modulus a r) ∙ length-less modulus a r ∙ length-carried (check_count s) content ∙ omega arith

pub label-below : (s : ℕ) (content : List ℕ) → Below modulus (label s content)
unfolding label
label-below s content =
    let a : List ℕ = carried (check_count s) content in
    let r : List ℕ = remainder modulus (generator (check_count s)) a in
    reverse-below modulus (less modulus a r) (less-below modulus a r (omega arith))

-- the data words are copied, and the check words are put after them
pub label-put : (s : ℕ) (content old copied checks : List ℕ) → Below modulus content → copied ≡ filled (length content) (coefficient content) old → checks ≡ check_words (check_count s) content
    → take (length content) copied ++ (checks ++ drop (check_count s) (drop (length content) copied)) ≡ label s content ++ drop (length (label s content)) old
label-put s content old copied checks below e f =
    let d : ℕ = length content in
    let after : List ℕ = drop d old in
    let whole : copied ≡ content ++ after = e ∙ rw (coefficients content) in
    let far : drop (check_count s) after ≡ drop (d + check_count s) old = drop-drop (check_count s) d old in
    rw (whole, take-append_seam content after, drop-append_seam content after, far, f, label-length s content, label-words s content below) (sym (append_assoc content (check_words (check_count s) content) (drop (d + check_count s) old)))

-- ---- what is written passes

pub label-multiple : (s : ℕ) (content : List ℕ)
    → Same modulus (reverse (label s content)) (product (quotient modulus (generator (check_count s)) (carried (check_count s) content)) (generator (check_count s)))
unfolding label
label-multiple s content =
    let m : ℕ = check_count s in
    let a : List ℕ = carried m content in
    rw (reverse-reverse (less modulus a (remainder modulus (generator m) a)))
    (multiple modulus m (generator m) a (omega arith) (roots-monic modulus root m (omega arith)) (rw (length-carried m content) (omega arith)))

pub written-passes : (s : ℕ) (content : List ℕ) → passes s (label s content) ≡ true
written-passes s content =
    let m : ℕ = check_count s in
    let g : List ℕ = generator m in
    let q : List ℕ = quotient modulus g (carried m content) in
    (vanishes-exactly m (reverse (label s content))).1
    (record { each = λ j low high. value_same modulus (root j) (reverse (label s content)) (product q g) (label-multiple s content) ∙ value-multiple modulus (root j) q g (roots-vanish modulus root m j (omega arith) low high) })
