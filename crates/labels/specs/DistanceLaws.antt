-- How many changed words the check words of a label notice. Assumes nothing.
--     nonzero-cancels    929 is prime: what is not 0 modulo 929 is no factor of 0
--     powers-differ      the powers of 3 below 3^928 are one number modulo 929 at one exponent only
--     apart              two labels of one length that both pass, and differ in no more places than there are check words, are one
use Rattle.std.specs.Prelude.{ℕ, ◌+◌, ◌-◌, ◌*◌, ◌%◌, ◌^◌, ◌≤◌, ◌<◌, ◌≡◌, refl, Bool, true, not, List, reverse, eqb, length}
use Rattle.std.proofs.Common.{sym, ap, ◌∙◌, zero-add, mul_comm, arith, pow-add, eqb-true}
use Rattle.std.proofs.lemmas.List.{reverse-reverse, length-reverse}
use Rattle.std.proofs.Math.Nat.{pow-zero, pow-succ'}
use Rattle.std.proofs.Math.Decide.{dec_lt}
use Rattle.std.proofs.lemmas.Bool.{eqb-false, not-false}
use Rattle.polynomials.specs.Indices.{sum_to, first}
use Rattle.polynomials.specs.IndexLaws.{sum_same, first-none}
use Rattle.polynomials.specs.Lists.{coefficient, Below}
use Rattle.polynomials.specs.ListLaws.{lists_agree}
use Rattle.polynomials.specs.Places.{minus}
use Rattle.polynomials.specs.PlaceLaws.{power-power}
use Rattle.polynomials.specs.ReductionLaws.{mul-mod, minus_is}
use Rattle.divisions.specs.ReverseLaws.{reverse-below}
use Rattle.divisions.specs.ValueLaws.{packed-sum-of}
use Rattle.divisions.specs.PowerLaws.{power-again, power-cancels}
use Rattle.divisions.specs.Differences.{unlike, differences}
use Rattle.divisions.specs.DifferenceLaws.{differences-turned}
use Rattle.divisions.specs.IndependenceLaws.{sum-most, unlike-most, Cancels, weighs, count, minus-itself, sum-minus, independent}
use Rattle.labels.specs.Labels.{modulus, most_words, check_count, root, power, cycle, passes}
use Rattle.labels.specs.RootLaws.{three-cycles}
use Rattle.labels.specs.LabelLaws.{vanishes-exactly}

-- ---- numbers modulo 929

-- power 928 of each number from 1 to 928 is 1: computed at all of them
abbrev no_round : ℕ → Bool
no_round i = not (eqb ((i + 1) ^ cycle % modulus) 1)

rounds-tested : first no_round cycle 0 ≡ cycle
unfolding first
rounds-tested = refl

round : (r : ℕ) → 0 < r → r < modulus → r ^ cycle % modulus ≡ 1
round r some below =
    let before : r - 1 + 1 ≡ r = omega arith in
    let tested = (first-none no_round cycle).0 (omega (arith, rounds-tested)) (r - 1) (omega arith) in
    rw before at (eqb-true ((r - 1 + 1) ^ cycle % modulus) 1 (not-false (eqb ((r - 1 + 1) ^ cycle % modulus) 1) tested))

pub nonzero-cancels : (r c : ℕ) → (r % modulus ≡ 0 → ⊥) → c * r % modulus ≡ 0 → c % modulus ≡ 0
nonzero-cancels r c some none =
    let rest : ℕ = r % modulus in
    let once : rest ^ 1 ≡ rest = rw (pow-succ', pow-zero) (omega arith) in
    power-cancels modulus rest cycle c 1 (omega arith) (omega arith) (round rest (omega arith) (omega arith)) (rw once (mul-mod c r modulus ∙ none))

-- no power of 3 from the first to the 927th is 1: computed at all of them
abbrev earlier : ℕ → Bool
earlier i = eqb (power (i + 1)) 1

cycle-tested : first earlier (cycle - 1) 0 ≡ cycle - 1
unfolding first
cycle-tested = refl

not-one : (d : ℕ) → 0 < d → d < cycle → power d ≡ 1 → ⊥
not-one d some below =
    let before : d - 1 + 1 ≡ d = omega arith in
    let tested = (first-none earlier (cycle - 1)).0 (omega (arith, cycle-tested)) (d - 1) (omega arith) in
    rw before at (eqb-false (power (d - 1 + 1)) 1 tested)

-- both times 3^(928 - e): 1, and 3^(f - e)
pub powers-differ : (e f : ℕ) → e < f → f < cycle → power e ≡ power f → ⊥
powers-differ e f less below same =
    let up : ℕ = cycle - e in
    let all : up + e ≡ cycle = omega arith in
    let more : (up + f) % cycle ≡ f - e = omega arith in
    let lower : root up * root e % modulus ≡ 1 = rw (← pow-add, all) three-cycles in
    let higher : root up * root f % modulus ≡ power (f - e) = rw (← pow-add, ← more) (sym (power-again modulus 3 cycle (up + f) (omega arith) three-cycles)) in
    not-one (f - e) (omega arith) (omega arith) (sym higher ∙ sym (mul-mod (root up) (root f) modulus) ∙ rw (← same) (mul-mod (root up) (root e) modulus ∙ lower))

powers-apart : (i k : ℕ) → i < cycle → k < cycle → (i ≡ k → ⊥) → power i ≡ power k → ⊥
powers-apart i k li lk other same = go (dec_lt i k)
  where
    go : Dec (i < k) → ⊥
    go (yes l) = powers-differ i k l lk same
    go (no l) = powers-differ k i (omega arith) li (sym same)

differences-cancel : (i k : ℕ) → i < cycle → k < cycle → (i ≡ k → ⊥) → Cancels modulus (root i + (modulus - root k % modulus))
differences-cancel i k li lk other c =
    nonzero-cancels (root i + (modulus - root k % modulus)) c
    (λ none. powers-apart i k li lk other (sym (minus_is modulus (root i) (root k) (omega arith)) ∙ rw (none, zero-add)))

-- ---- labels

root-turned : (i j : ℕ) → root i ^ j ≡ root j ^ i
root-turned i j = power-power 3 i j ∙ rw (mul_comm j i) (sym (power-power 3 j i))

-- the polynomial of a label that passes, as sums over its words
passing-sum : (s n : ℕ) (words : List ℕ) → n ≡ length words → passes s words ≡ true → (j : ℕ) → 1 ≤ j → j ≤ check_count s
    → sum_to n (λ i. coefficient (reverse words) i * root i ^ j) % modulus ≡ 0
passing-sum s n words size passed j low high =
    let a : List ℕ = reverse words in
    let turned : sum_to (length a) (λ i. coefficient a i * root j ^ i) ≡ sum_to (length a) (λ i. coefficient a i * root i ^ j) = sum_same (length a) (λ i. coefficient a i * root j ^ i) (λ i. coefficient a i * root i ^ j) (λ i l. rw (root-turned i j)) in
    let whole : n ≡ length a = size ∙ sym (length-reverse words) in
    rw (whole, ← turned, ← packed-sum-of (root j) a) (((vanishes-exactly (check_count s) a).0 passed).each j low high)

module _ (s : ℕ) (words others : List ℕ) (below : Below modulus words) (others-Below : Below modulus others) (size : length words ≡ length others) (fits : length words ≤ most_words)
    (passed : passes s words ≡ true) (others-passed : passes s others ≡ true) (few : differences words others ≤ check_count s) where
  abbrev n : ℕ
  n = length words

  abbrev a : List ℕ
  a = reverse words

  abbrev b : List ℕ
  b = reverse others

  -- the difference of the two words that stand at x^i
  abbrev weight : ℕ → ℕ
  weight i = minus modulus (coefficient a i) (coefficient b i)

  weight-sum : (j : ℕ) → 1 ≤ j → j ≤ check_count s → sum_to n (λ i. weight i * root i ^ j) % modulus ≡ 0
  weight-sum j low high =
      sum-minus modulus n (coefficient a) (coefficient b) (λ i. root i ^ j) (omega arith) (passing-sum s n words refl passed j low high) (passing-sum s n others size others-passed j low high)

  weight-count : count modulus n weight ≤ check_count s
  weight-count =
      let none : (i : ℕ) → coefficient a i ≡ coefficient b i → weight i % modulus ≡ 0 = λ i e. rw (minus-itself modulus (coefficient a i) (coefficient b i) (omega arith) e) in
      omega (arith, sum-most n (weighs modulus weight) (unlike a b) (λ i l. unlike-most (coefficient a i) (coefficient b i) (weight i % modulus) 0 (none i)), differences-turned words others size)

  weight-none : (i : ℕ) → i < n → weight i % modulus ≡ 0
  weight-none =
      independent modulus n root (omega arith) (λ i l c. power-cancels modulus 3 cycle c i (omega arith) (omega arith) three-cycles) (λ i k li lk. differences-cancel i k (omega arith) (omega arith))
      (check_count s) weight weight-count weight-sum

  word_same : (i : ℕ) → i < n → coefficient a i ≡ coefficient b i
  word_same i l = omega (arith, weight-none i l, reverse-below modulus words below i, reverse-below modulus others others-Below i)

  pub apart : words ≡ others
  apart =
      let turned : a ≡ b = lists_agree a b (length-reverse words ∙ size ∙ sym (length-reverse others)) (λ i l. word_same i (rw length-reverse at l)) in
      sym (reverse-reverse words) ∙ ap reverse turned ∙ reverse-reverse others
