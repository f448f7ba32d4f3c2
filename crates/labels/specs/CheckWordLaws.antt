-- What the workers of write need of lists to make the check words. Assumes nothing.
--     zeros-first           the first of some zeros are zeros
--     length-carried        data words times x^m: how many coefficients
--     carried-put           the data words turned, and put into zeros from place m on
--     made-generator        the generator, made in the first m + 1 of some zeros
--     work-size             the list to divide in has a place for each word
--     work-dividing         it can be divided
--     left-long             what is left has m words or more
--     rest_below, check-words
--                           the first m of what is left are below 929, and zero less these, turned, are the check words
use Rattle.std.specs.Prelude.{ℕ, suc, ◌+◌, ◌-◌, ◌≤◌, ◌≡◌, List, [], ◌++◌, reverse, length, replicate, take, drop}
use Rattle.std.proofs.Common.{ap, ◌∙◌, append-nil, arith, length-append, drop_of_length-le, take_at, drop-drop}
use Rattle.std.proofs.lemmas.List.{length-replicate, length-reverse, replicate-append-replicate}
use Rattle.polynomials.specs.Lists.{Below}
use Rattle.polynomials.specs.ListLaws.{coefficient-zeros, below-join}
use Rattle.divisions.specs.Divisions.{degree, divided, remainder}
use Rattle.divisions.specs.DivisionLaws.{divided-length, divided-first, remainder-below}
use Rattle.divisions.specs.ReverseLaws.{reverse-below}
use Rattle.divisions.specs.ValueLaws.{length-with_roots, roots-below}
use Rattle.labels.specs.Labels.{modulus, root, generator, carried}
use Rattle.labels.specs.Working.{CheckWork, Dividing, opposites, check_words}

abbrev zeros : ℕ → List ℕ
zeros n = replicate n 0

pub zeros-first : (k n : ℕ) → k ≤ n → take k (zeros n) ≡ zeros k
zeros-first k n h =
    let rest : k + (n - k) ≡ n = omega arith in
    let parts : zeros k ++ zeros (n - k) ≡ zeros n = rw rest at (replicate-append-replicate {A = ℕ} k (n - k) 0) in
    rw (← parts) (take_at (zeros k) (zeros (n - k)) k (length-replicate k 0))

pub length-carried : (m : ℕ) (content : List ℕ) → length (carried m content) ≡ m + length content
length-carried m content = simp (length-append, length-replicate, length-reverse)

pub carried-put : (m k : ℕ) (content rest turned : List ℕ) → rest ≡ zeros (m + length content) → length content ≤ k → turned ≡ reverse content
    → take m rest ++ (turned ++ drop k (drop m rest)) ≡ carried m content
carried-put m k content rest turned hr far ht =
    let none : drop k (drop m rest) ≡ [] = drop-drop k m rest ∙ drop_of_length-le rest {i = m + k} (rw (hr, length-replicate) (omega arith)) in
    rw (none, append-nil turned, ht, hr, zeros-first m (m + length content) (omega arith))

pub made-generator : (m k : ℕ) (made : List ℕ) → m + 1 ≤ k → made ≡ generator (length (take (m + 1) (zeros k)) - 1) → made ≡ generator m
made-generator m k made room e =
    let last : length (take (m + 1) (zeros k)) - 1 ≡ m = rw (zeros-first (m + 1) k room, length-replicate) (omega arith) in
    e ∙ ap generator last

module _ (g content rest out : List ℕ) (w : CheckWork g content rest out) where
  abbrev m : ℕ
  m = length out

  pub work-size : length rest ≡ m + length content
  work-size = ap length w.zeros ∙ length-replicate (m + length content) 0

  size : length g ≡ suc m
  size = rw w.divisor (length-with_roots modulus root m)

  below : Below modulus (carried m content)
  below = below-join modulus (zeros m) (reverse content) (λ j. rw (coefficient-zeros [] m j) (omega arith)) (reverse-below modulus content w.room.below)

  pub work-dividing : Dividing g (carried m content)
  work-dividing = record {
    some = omega (arith, size);
    few = omega (arith, size, w.room.places);
    longer = omega (arith, size, length-carried m content);
    few_words = omega (arith, length-carried m content, w.room.few);
    below = rw w.divisor (roots-below modulus root m (omega arith));
    part_below = below;
  }

  module _ (left : List ℕ) (e : left ≡ divided modulus g (length (carried m content) - degree g) (carried m content)) where
    pub left-long : m ≤ length left
    left-long = rw (e, divided-length modulus g (length (carried m content) - degree g) (carried m content), length-carried m content) (omega arith)

    is-remainder : take m left ≡ remainder modulus (generator m) (carried m content)
    is-remainder =
        let low : m ≡ degree g = omega (arith, size) in
        rw (e, ← w.divisor) (ap (λ (n : ℕ). take n (divided modulus g (length (carried m content) - degree g) (carried m content))) low ∙ divided-first modulus g (carried m content) (omega arith) below work-dividing.longer)

    pub rest_below : Below modulus (take m left)
    rest_below = rw is-remainder (remainder-below modulus (generator m) (carried m content) (omega arith))

    pub check-words : (now : List ℕ) → now ≡ reverse (opposites (take m left)) → now ≡ check_words m content
    unfolding check_words
    check-words now h = h ∙ rw is-remainder
