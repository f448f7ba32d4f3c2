-- "Label check words": stacked labels to ISO/IEC 15438 (PDF417), words modulo 929. Words stand highest power first, and a list of coefficients
-- has that of x^0 first: a label's polynomial is the label reversed.
--     modulus, highest_level, most_words      929; levels are 0 to 8; a label has at most 928 words
--     check_count s                          2^(s+1), the check words at level s; most_checks, those at the highest
--     root j                                3^j; the generator's roots are those from j = 1 on
--     power j                               3^j modulo 929; cycle, how many there are before 1 comes again
--     generator m                           the product of (x - 3^j), j from 1 to m
--     carried m content                     the data words' polynomial times x^m
--     label s content                       data times x^m, less the remainder by the generator, highest power first; m is the level's number of check words
--     value_at a j                           the polynomial a at the root 3^j, modulo 929
--     Vanishes m a                          it is zero at each root 3^j, j from 1 to m; vanishing m a, as a test: vanishes-exactly in LabelLaws shows that they agree
--     passes s words                        a label passes: its polynomial vanishes at each root
--     level_cause, few_cause, many_cause       19 Level: above 8; 20 Few: no data words, to check at most m words; 21 Many: more than 928 words in all
--     write_checks s content len             19, 20, 21, 8, 10: a list of len words is lent for the label
--     read_checks s words                    19, 20, 21, 8
--     write-gives, read-gives               the numbers that these can give, and no other
--     WritesLabel, ChecksLabel              the promises of write and check; write-once, check-once: each allows one result only
use Rattle.std.specs.Prelude.{ℕ, ◌+◌, ◌^◌, ◌%◌, ◌≤◌, ◌≡◌, Bool, not, List, [], ◌∷◌, ◌++◌, reverse, leb, ltb, length, replicate, Result}
use Rattle.polynomials.specs.Indices.{exceeds}
use Rattle.divisions.specs.Divisions.{less, remainder}
use Rattle.divisions.specs.Values.{value, with_roots}
use Rattle.settings.specs.Answers.{answered, Verdict, refuse, ◌and_then◌, Given}
use Rattle.settings.specs.AnswerLaws.{given-check, given-then}
use Rattle.settings.specs.SharedAnswers.{short_cause, Writes, writes-once}
use Rattle.settings.specs.Coefficients.{coefficient_check, coefficient-gives}
use Rattle.settings.specs.Refusals.{says, says-once}
use Rattle.settings.specs.declared.refusals.Refusal.{Refusal}

abbrev pub modulus : ℕ
modulus = 929

abbrev pub highest_level : ℕ
highest_level = 8

abbrev pub most_words : ℕ
most_words = 928

abbrev pub check_count : ℕ → ℕ
check_count s = 2 ^ (s + 1)

abbrev pub most_checks : ℕ
most_checks = 512

-- ---- the generator

abbrev pub root : ℕ → ℕ
root j = 3 ^ j

abbrev pub power : ℕ → ℕ
power j = root j % modulus

abbrev pub cycle : ℕ
cycle = 928

abbrev pub generator : ℕ → List ℕ
generator m = with_roots modulus root m

-- ---- what is written

abbrev pub carried : ℕ → List ℕ → List ℕ
carried m content = replicate m 0 ++ reverse content

unfoldable pub label : ℕ → List ℕ → List ℕ
label s content =
    let a : List ℕ = carried (check_count s) content in
    reverse (less modulus a (remainder modulus (generator (check_count s)) a))

-- ---- what passes

abbrev pub value_at : List ℕ → ℕ → ℕ
value_at a j = value modulus (root j) a

unfoldable pub vanishing : ℕ → List ℕ → Bool
vanishing m a = not (exceeds m (λ j. value_at a (j + 1)) (λ j. 0))

pub record Vanishes (m : ℕ) (a : List ℕ) : Type 0 where
  pub each : (j : ℕ) → 1 ≤ j → j ≤ m → value_at a j ≡ 0

abbrev pub passes : ℕ → List ℕ → Bool
passes s words = vanishing (check_count s) (reverse words)

-- ---- checks

abbrev pub level_cause : ℕ → Bool
level_cause s = ltb highest_level s

abbrev pub few_cause : ℕ → ℕ → Bool
few_cause most words = leb words most

abbrev pub many_cause : ℕ → Bool
many_cause words = ltb most_words words

unfoldable pub write_checks : ℕ → List ℕ → ℕ → Verdict
write_checks s content len =
    refuse (level_cause s) 19 0
    and_then refuse (few_cause 0 (length content)) 20 0
    and_then refuse (many_cause (length content + check_count s)) 21 0
    and_then coefficient_check modulus content
    and_then refuse (short_cause (length content + check_count s) len) 10 0

unfoldable pub read_checks : ℕ → List ℕ → Verdict
read_checks s words =
    refuse (level_cause s) 19 0
    and_then refuse (few_cause (check_count s) (length words)) 20 0
    and_then refuse (many_cause (length words)) 21 0
    and_then coefficient_check modulus words

pub write-gives : (s : ℕ) (content : List ℕ) (len : ℕ) → Given (19 ∷ 20 ∷ 21 ∷ 8 ∷ 10 ∷ []) (write_checks s content len)
unfolding write_checks
write-gives s content len =
    given-then (given-check (level_cause s) 19 0)
    (given-then (given-check (few_cause 0 (length content)) 20 0)
    (given-then (given-check (many_cause (length content + check_count s)) 21 0)
    (given-then (coefficient-gives modulus content) (given-check (short_cause (length content + check_count s) len) 10 0))))

pub read-gives : (s : ℕ) (words : List ℕ) → Given (19 ∷ 20 ∷ 21 ∷ 8 ∷ []) (read_checks s words)
unfolding read_checks
read-gives s words =
    given-then (given-check (level_cause s) 19 0)
    (given-then (given-check (few_cause (check_count s) (length words)) 20 0)
    (given-then (given-check (many_cause (length words)) 21 0) (coefficient-gives modulus words)))

-- ---- write

abbrev pub WritesLabel : ℕ → List ℕ → List ℕ → Result ℕ Refusal → List ℕ → Type 0
WritesLabel s content old r after = Writes (write_checks s content (length old)) (label s content) old r after

pub write-once : (s : ℕ) (content old : List ℕ) (a b : Result ℕ Refusal) (x y : List ℕ) → WritesLabel s content old a x → WritesLabel s content old b y → (a ≡ b) × (x ≡ y)
write-once s content old = writes-once (write_checks s content (length old)) (label s content) old

-- ---- check

abbrev pub ChecksLabel : ℕ → List ℕ → Result Bool Refusal → Type 0
ChecksLabel s words r = says r ≡ (read_checks s words and_then answered (passes s words))

pub check-once : (s : ℕ) (words : List ℕ) (a b : Result Bool Refusal) → ChecksLabel s words a → ChecksLabel s words b → a ≡ b
check-once s words a b = says-once a b (read_checks s words and_then answered (passes s words))
