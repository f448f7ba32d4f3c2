-- The starred examples of document 01, as one table: what the definitions give, beside what the document prints.
--     value, none        what the document prints: a width or a word; "None", which is refusal 7
--     written            what it prints of a call that fills a list or a buffer: its elements
--     fed_times           a record fed one pair some times; word_after, residues_after, closing_after, what it prints of it
--     starred            the table
--     starred-agree      every row's two sides are the same, by computing the left ones
--     first-works, second-idles
--                        a feed that works on its first call and idles on the second keeps its promise on the first, and not on the second
use Rattle.std.specs.Prelude.{ℕ, zero, suc, ◌*◌, ◌≡◌, refl, List, [], ◌∷◌, length, replicate, take}
use Rattle.std.proofs.Common.{ap, arith, Result, Ok}
use Rattle.polynomials.specs.Indices.{upto, first, rounded_up}
use Rattle.polynomials.specs.Places.{fields, shifted}
use Rattle.settings.specs.Answers.{answered, Verdict, ◌and_then◌, numbers, wrote, left_by}
use Rattle.settings.specs.Settings.{base, places, setting_checks, setting_of}
use Rattle.settings.specs.Choices.{escapes, smallest_width, none_cause, choose_answer}
use Rattle.packed.specs.Taken.{taken}
use Rattle.words.specs.Places.{word_checks, places_checks, reduce_answer}
use Rattle.packed.specs.Packing.{pack_answer}
use Rattle.tables.specs.Tables.{table, table_checks, build_checks}
use Rattle.packed.specs.Overflow.{feed_overflow}
use Rattle.packed.specs.Running.{sum_cause, record_cause, closing_at, after_pairs, fed_pairs, pair_checks, feed_checks, close_checks, kept_by, fresh_sum, record_of, Feeds}
use Rattle.examples.specs.Compared.{Row, Agree, answering}
use Rattle.examples.specs.Inputs.{small}
use Rattle.packed.specs.declared.running.Record.{Record}
use Rattle.settings.specs.declared.refusals.Refusal.{Refusal}

value : ℕ → List ℕ
value v = 0 ∷ 0 ∷ v ∷ []

none : List ℕ
none = 7 ∷ 0 ∷ []

written : List ℕ → List ℕ
written vs = 0 ∷ 0 ∷ length vs ∷ vs

choosing : ℕ → ℕ → ℕ → List ℕ → Row
choosing p k n prints = answering (choose_answer p k n) prints

packing : List ℕ → List ℕ → Row
packing xs prints = answering (pack_answer small xs) prints

reducing : ℕ → List ℕ → Row
reducing w prints = answering (reduce_answer small w) prints

-- new elements, into a list that has room for them and no more
writing : (ℕ → Verdict) → List ℕ → List ℕ → Row
writing checks new prints =
    let len = length new in
    record { gives = numbers (λ m. m ∷ left_by (checks len) new (replicate len 9)) (wrote (checks len) new); prints = prints }

unpacking : ℕ → List ℕ → Row
unpacking w prints = writing (places_checks small w) (fields (base small) (places small) w) prints

shifting : ℕ → List ℕ → Row
shifting w prints = writing (places_checks small w) (upto (places small) (shifted small.p (base small) w)) prints

building : List ℕ → Row
building prints = writing (build_checks small) (table small.p small.t) prints

-- p = 3, k = 2, t = 5, n = 2, and the pair (1, 2), (2, 2) fed m times
pub fed_times : ℕ → Record
fed_times zero = record_of (setting_of 3 2 5 2) fresh_sum
fed_times (suc m) =
    let r : Record = fed_times m in
    kept_by (feed_checks r (1 ∷ 2 ∷ []) (2 ∷ 2 ∷ [])) (record_of r.setting (after_pairs r.setting r.sum (fed_pairs r.setting (1 ∷ 2 ∷ []) (2 ∷ 2 ∷ [])))) r

word_after : ℕ → ℕ → Row
word_after m prints = record { gives = (fed_times m).sum.word ∷ []; prints = prints ∷ [] }

residues_after : ℕ → List ℕ → Row
residues_after m prints = record { gives = take (length prints) (fed_times m).sum.residues; prints = prints }

-- the reductions, and the coefficients into a list of three
closing_after : ℕ → ℕ → List ℕ → Row
closing_after m reductions prints =
    let r : Record = fed_times m in
    let checks : Verdict = close_checks r 3 in
    record {
      gives = numbers (λ v. v ∷ left_by checks (upto (places r.setting) (closing_at r.setting r.sum)) (replicate 3 9)) (checks and_then answered (rounded_up r.sum.total r.setting.n));
      prints = 0 ∷ 0 ∷ reductions ∷ prints;
    }

pub starred : List Row
starred =
    choosing 3 4 31 (value 9)
    ∷ choosing 3 4 32 none
    ∷ choosing 929 2 1 (value 21)
    ∷ choosing 929 2 2 none
    ∷ choosing 2 8 1 (value 4)
    ∷ choosing 2 8 2 none
    ∷ choosing 37 3 1 (value 12)
    ∷ choosing 38 3 1 none
    ∷ packing (1 ∷ 2 ∷ []) (value 33)
    ∷ packing (2 ∷ 2 ∷ []) (value 34)
    ∷ record { gives = 33 * 34 ∷ []; prints = 1122 ∷ [] }
    ∷ unpacking 1122 (written (2 ∷ 6 ∷ 4 ∷ []))
    ∷ shifting 1122 (written (0 ∷ 1 ∷ 1 ∷ []))
    ∷ reducing 1122 (value 258)
    ∷ unpacking 258 (written (2 ∷ 0 ∷ 1 ∷ []))
    ∷ building (written (0 ∷ 0 ∷ 0 ∷ 13 ∷ 1 ∷ 0 ∷ 3 ∷ 4 ∷ 0 ∷ 1 ∷ 2 ∷ 2 ∷ 0 ∷ 1 ∷ 1 ∷ 2 ∷ 0 ∷ []))
    ∷ word_after 1 4290
    ∷ word_after 2 0
    ∷ residues_after 2 (1 ∷ 0 ∷ 2 ∷ [])
    ∷ word_after 3 4290
    ∷ residues_after 3 (1 ∷ 0 ∷ 2 ∷ [])
    ∷ closing_after 3 2 (0 ∷ 0 ∷ 0 ∷ [])
    ∷ []

pub starred-agree : Agree starred
unfolding starred value none written choosing packing reducing writing unpacking shifting building choose_answer none_cause smallest_width escapes first setting_checks word_checks places_checks pack_answer reduce_answer taken table table_checks build_checks fed_times word_after residues_after closing_after sum_cause record_cause after_pairs feed_overflow pair_checks feed_checks close_checks
starred-agree = refl

-- ---- a feed that works on its first call and idles after

-- Such a program has other steps than the proof of feed, so that an edit of the code would show nothing. What rules it out is feed's promise,
-- computed for document 01's pair: its first call is kept, and the second is not, whatever is answered.

pub first-works : Feeds (fed_times 0) (1 ∷ 2 ∷ []) (2 ∷ 2 ∷ []) (record { running = fed_times 1; answer = Ok 1 })
unfolding fed_times first setting_checks taken sum_cause record_cause after_pairs feed_overflow pair_checks feed_checks
first-works = (refl, refl)

pub second-idles : (a : Result ℕ Refusal) → Feeds (fed_times 1) (1 ∷ 2 ∷ []) (2 ∷ 2 ∷ []) (record { running = fed_times 1; answer = a }) → ⊥
unfolding fed_times first setting_checks taken sum_cause record_cause after_pairs feed_overflow pair_checks feed_checks
second-idles a h = let word : ◌≡◌ {A = ℕ} 4290 0 = ap (λ (r : Record). r.sum.word) h.1 in omega arith
