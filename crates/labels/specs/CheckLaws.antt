-- What the checks of a label refuse, cause by cause, and what passing them says. Assumes nothing.
--     count_low, count_most       a level has at least 2 check words, and one up to 8 at most 512
--     one_list                    the library's search of two lists, the second empty, is that of one
--     write-level, write-few, write-many, write-bad, write-short, write-fine
--                                 write gives 19, 20, 21, 8, 10, or refuses nothing
--     Writable, write-passed      what holds where write refuses nothing
--     read-level, read-few, read-many, read-rest
--                                 check gives 19, 20, 21; and where it gives none of them, 8 is left
--     Readable, read-passed       what holds where check refuses nothing
--     read-pass                   and there it refuses nothing
use Rattle.std.proofs.lemmas.Bool.{lt-leb}
use Rattle.std.specs.Prelude.{ℕ, ◌+◌, ◌≤◌, ◌<◌, ◌≡◌, refl, Bool, true, false, List, [], ltb, length}
use Rattle.std.proofs.Common.{◌∙◌, arith, pow_mono, lt-ltb, le-ltb, le-leb, ltb-true, ltb-false, leb-false}
use Rattle.polynomials.specs.Lists.{Below}
use Rattle.settings.specs.Answers.{refused, fine, refuse, ◌and_then◌}
use Rattle.settings.specs.AnswerLaws.{passed, passed_first, passed-last}
use Rattle.settings.specs.SharedAnswers.{short_cause}
use Rattle.settings.specs.Coefficients.{first_bad, coefficient_check, coefficients_check, coefficient-check}
use Rattle.labels.specs.Labels.{modulus, highest_level, most_words, most_checks, check_count, level_cause, few_cause, many_cause, write_checks, read_checks}

pub count_low : (s : ℕ) → 2 ≤ check_count s
count_low s = pow_mono {i = 1} {j = s + 1} (omega arith)

pub count_most : (s : ℕ) → s ≤ highest_level → check_count s ≤ most_checks
count_most s h = pow_mono {i = s + 1} {j = 9} (omega arith)

-- ---- 8

pub one_list : (p : ℕ) (xs : List ℕ) → coefficients_check p xs [] ≡ coefficient_check p xs
one_list p xs = go (ltb (first_bad p xs) (length xs)) refl
  where
    go : (found : Bool) → ltb (first_bad p xs) (length xs) ≡ found → coefficients_check p xs [] ≡ coefficient_check p xs
    go true e = rw (e, lt-ltb (first_bad p xs) (length xs + 0) (omega (arith, ltb-true (first_bad p xs) (length xs) e)))
    go false e = rw (e, le-ltb (length xs + first_bad p []) (length xs + 0) (omega arith))

-- ---- write

module _ (s : ℕ) (content : List ℕ) (len : ℕ) where
  pub write-level : highest_level < s → write_checks s content len ≡ refused 19 0
  unfolding write_checks
  write-level h = rw (lt-ltb highest_level s h)

  module _ (level : s ≤ highest_level) where
    pub write-few : length content ≡ 0 → write_checks s content len ≡ refused 20 0
    unfolding write_checks
    write-few h = rw (le-ltb highest_level s level, le-leb (length content) 0 (omega arith))

    module _ (some : 0 < length content) where
      pub write-many : most_words < length content + check_count s → write_checks s content len ≡ refused 21 0
      unfolding write_checks
      write-many h = rw (le-ltb highest_level s level, lt-leb (length content) 0 some, lt-ltb most_words (length content + check_count s) h)

      module _ (few : length content + check_count s ≤ most_words) where
        -- 8 and 10 are left
        rest : write_checks s content len ≡ (coefficient_check modulus content and_then refuse (short_cause (length content + check_count s) len) 10 0)
        unfolding write_checks
        rest = rw (le-ltb highest_level s level, lt-leb (length content) 0 some, le-ltb most_words (length content + check_count s) few)

        pub write-bad : (number place : ℕ) → coefficient_check modulus content ≡ refused number place → write_checks s content len ≡ refused number place
        write-bad number place e = rest ∙ rw e

        module _ (below : coefficient_check modulus content ≡ fine) where
          pub write-short : len < length content + check_count s → write_checks s content len ≡ refused 10 0
          write-short h = rest ∙ rw (below, lt-ltb len (length content + check_count s) h)

          pub write-fine : length content + check_count s ≤ len → write_checks s content len ≡ fine
          write-fine h = rest ∙ rw (below, le-ltb len (length content + check_count s) h)

pub record Writable (s : ℕ) (content : List ℕ) (len : ℕ) : Type 0 where
  pub level : s ≤ highest_level
  pub some : 0 < length content
  pub few : length content + check_count s ≤ most_words
  pub below : Below modulus content
  pub room : length content + check_count s ≤ len

pub write-passed : (s : ℕ) (content : List ℕ) (len : ℕ) → write_checks s content len ≡ fine → Writable s content len
unfolding write_checks
write-passed s content len e =
    let first = passed (level_cause s) 19 0 _ tt e in
    let second = passed (few_cause 0 (length content)) 20 0 _ tt first.1 in
    let third = passed (many_cause (length content + check_count s)) 21 0 _ tt second.1 in
    let fourth = passed_first (coefficient_check modulus content) _ tt third.1 in
    record {
      level = ltb-false highest_level s first.0;
      some = leb-false (length content) 0 second.0;
      few = ltb-false most_words (length content + check_count s) third.0;
      below = (coefficient-check modulus content (omega arith)).0 fourth.0;
      room = ltb-false len (length content + check_count s) (passed-last (short_cause (length content + check_count s) len) 10 0 fourth.1);
    }

-- ---- check

module _ (s : ℕ) (words : List ℕ) where
  pub read-level : highest_level < s → read_checks s words ≡ refused 19 0
  unfolding read_checks
  read-level h = rw (lt-ltb highest_level s h)

  module _ (level : s ≤ highest_level) where
    pub read-few : length words ≤ check_count s → read_checks s words ≡ refused 20 0
    unfolding read_checks
    read-few h = rw (le-ltb highest_level s level, le-leb (length words) (check_count s) h)

    module _ (some : check_count s < length words) where
      pub read-many : most_words < length words → read_checks s words ≡ refused 21 0
      unfolding read_checks
      read-many h = rw (le-ltb highest_level s level, lt-leb (length words) (check_count s) some, lt-ltb most_words (length words) h)

      pub read-rest : length words ≤ most_words → read_checks s words ≡ coefficient_check modulus words
      unfolding read_checks
      read-rest h = rw (le-ltb highest_level s level, lt-leb (length words) (check_count s) some, le-ltb most_words (length words) h)

pub record Readable (s : ℕ) (words : List ℕ) : Type 0 where
  pub level : s ≤ highest_level
  pub some : check_count s < length words
  pub few : length words ≤ most_words
  pub below : Below modulus words

pub read-passed : (s : ℕ) (words : List ℕ) → read_checks s words ≡ fine → Readable s words
unfolding read_checks
read-passed s words e =
    let first = passed (level_cause s) 19 0 _ tt e in
    let second = passed (few_cause (check_count s) (length words)) 20 0 _ tt first.1 in
    let third = passed (many_cause (length words)) 21 0 _ tt second.1 in
    record {
      level = ltb-false highest_level s first.0;
      some = leb-false (length words) (check_count s) second.0;
      few = ltb-false most_words (length words) third.0;
      below = (coefficient-check modulus words (omega arith)).0 third.1;
    }

pub read-pass : (s : ℕ) (words : List ℕ) → Readable s words → read_checks s words ≡ fine
read-pass s words r = rw (read-rest s words r.level r.some r.few) ((coefficient-check modulus words (omega arith)).1 r.below)
