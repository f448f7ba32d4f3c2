-- What follows from the promises of write and check alone. Assumes nothing.
--     data-first        what write writes starts with the data words
--     written_read      what write writes passes: check answers so
--     changed-read      a label that passes, with 1 to m words changed, m being the level's check words: check answers that it fails
--     word-changed, words-exchanged
--                       so of one word changed, and of two different ones exchanged
use Rattle.std.specs.Prelude.{ℕ, ◌≤◌, ◌<◌, ◌≡◌, refl, Bool, true, false, List, length, set, take, Result, Ok}
use Rattle.std.proofs.Common.{sym, ap, ◌∙◌, arith, length-set}
use Rattle.std.proofs.Math.Seq.{take-append_seam}
use Rattle.polynomials.specs.Lists.{coefficient, Below}
use Rattle.divisions.specs.Differences.{differences, exchanged}
use Rattle.divisions.specs.DifferenceLaws.{differences-set, differences-exchanged, below_set, set_other, exchanged-other}
use Rattle.settings.specs.Answers.{answered, fine}
use Rattle.settings.specs.AnswerLaws.{passed_first, wrote-left}
use Rattle.labels.specs.Labels.{modulus, check_count, label, write_checks, read_checks, passes, WritesLabel, ChecksLabel, check-once}
use Rattle.labels.specs.CheckLaws.{count_low, Writable, write-passed, Readable, read-passed, read-pass}
use Rattle.labels.specs.Working.{check_words}
use Rattle.labels.specs.LabelLaws.{label-words, label-length, label-below, written-passes}
use Rattle.labels.specs.DistanceLaws.{apart}
use Rattle.settings.specs.declared.refusals.Refusal.{Refusal}

module _ (s : ℕ) (content old after : List ℕ) (n : ℕ) (written : WritesLabel s content old (Ok n) after) where
  writable : Writable s content (length old)
  writable = write-passed s content (length old) (passed_first (write_checks s content (length old)) (answered (length (label s content))) n (sym written.0)).0

  is-label : take n after ≡ label s content
  is-label = ap (take n) written.1 ∙ wrote-left (write_checks s content (length old)) (label s content) old n (sym written.0)

  pub data-first : take (length content) (take n after) ≡ content
  data-first = rw (is-label, label-words s content writable.below) (take-append_seam content (check_words (check_count s) content))

  readable : Readable s (label s content)
  readable = record {
    level = writable.level;
    some = rw (label-length s content) (omega (arith, writable.some));
    few = rw (label-length s content) writable.few;
    below = label-below s content;
  }

  pub written_read : (r : Result Bool Refusal) → ChecksLabel s (take n after) r → r ≡ Ok true
  written_read r h =
      let told : ChecksLabel s (label s content) r = rw is-label at h in
      check-once s (label s content) r (Ok true) told (rw (read-pass s (label s content) readable, written-passes s content))

module _ (s : ℕ) (words : List ℕ) (passed : ChecksLabel s words (Ok true)) where
  both : (read_checks s words ≡ fine) × (answered (passes s words) ≡ answered true)
  both = passed_first (read_checks s words) (answered (passes s words)) true (sym passed)

  good : Readable s words
  good = read-passed s words both.0

  passes-so : passes s words ≡ true
  passes-so = let same : answered (passes s words) ≡ answered true = both.1 in cc

  module _ (others : List ℕ) (size : length others ≡ length words) (below : Below modulus others) (few : differences words others ≤ check_count s) (other : words ≡ others → ⊥) where
    fails-so : passes s others ≡ false
    fails-so = go (passes s others) refl
      where
        go : (t : Bool) → passes s others ≡ t → t ≡ false
        go true e = absurd (other (apart s words others good.below below (sym size) good.few passes-so e few))
        go false e = refl

    pub changed-read : (r : Result Bool Refusal) → ChecksLabel s others r → r ≡ Ok false
    changed-read r h =
        let readable : Readable s others = record { level = good.level; some = rw size good.some; few = rw size good.few; below = below } in
        check-once s others r (Ok false) h (rw (read-pass s others readable, fails-so))

  pub word-changed : (i v : ℕ) → i < length words → v < modulus → (v ≡ coefficient words i → ⊥) → (r : Result Bool Refusal) → ChecksLabel s (set words i v) r → r ≡ Ok false
  word-changed i v inside low other =
      changed-read (set words i v) (length-set words i v) (below_set modulus words i v low good.below) (omega (arith, differences-set words i v, count_low s)) (set_other words i v inside other)

  pub words-exchanged : (i k : ℕ) → i < length words → k < length words → (coefficient words i ≡ coefficient words k → ⊥) → (r : Result Bool Refusal) → ChecksLabel s (exchanged words i k) r → r ≡ Ok false
  words-exchanged i k hi hk other =
      changed-read (exchanged words i k) (rw (length-set, length-set))
      (below_set modulus (set words i (coefficient words k)) k (coefficient words i) (good.below i) (below_set modulus words i (coefficient words k) (good.below k) good.below))
      (omega (arith, differences-exchanged words i k, count_low s)) (exchanged-other words i k hk other)
