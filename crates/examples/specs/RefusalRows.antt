-- The refusals, each by a small input that gives it: number and place as docs/REFUSALS.md prints them, and what the definitions give. The prover computes
-- the second and compares. 18 has no row, since no input gives it: never-overflows and never-feeds-over of `packed`.
--     tiny                       p=2, k=1, t=1, n=1, the smallest setting that is accepted
--     refusal_rows, refusals-agree
--                                the table, and that its two sides are the same
use Rattle.std.specs.Prelude.{refl, List, [], ◌∷◌, replicate}
use Rattle.polynomials.specs.Indices.{first}
use Rattle.settings.specs.Settings.{setting_checks, setting_of}
use Rattle.settings.specs.Choices.{escapes, smallest_width, none_cause, choose_answer}
use Rattle.words.specs.Places.{word_checks, words_checks, places_checks}
use Rattle.packed.specs.Taken.{taken}
use Rattle.packed.specs.Packing.{pack_answer}
use Rattle.packed.specs.Overflow.{feed_overflow}
use Rattle.packed.specs.Products.{factor_checks, product_checks}
use Rattle.packed.specs.Running.{sum_cause, record_cause, pair_checks, feed_checks, fresh_sum, record_of}
use Rattle.tables.specs.Tables.{table, table_checks, by_table_checks}
use Rattle.lane.specs.Lanes.{make_checks}
use Rattle.jobs.specs.Jobs.{header_checks, job_checks}
use Rattle.labels.specs.Labels.{write_checks}
use Rattle.examples.specs.Compared.{Row, Agree, answering, checking}
use Rattle.settings.specs.declared.setting.Setting.{Setting}

tiny : Setting
tiny = setting_of 2 1 1 1

pub refusal_rows : List Row
refusal_rows =
    checking (setting_checks (setting_of 0 0 0 0)) (1 ∷ 0 ∷ [])
    ∷ checking (setting_checks (setting_of 2 0 0 0)) (2 ∷ 0 ∷ [])
    ∷ checking (setting_checks (setting_of 2 1 0 0)) (3 ∷ 0 ∷ [])
    ∷ checking (setting_checks (setting_of 2 1 0 1)) (4 ∷ 0 ∷ [])
    ∷ checking (setting_checks (setting_of 2 1 1 2)) (5 ∷ 0 ∷ [])
    ∷ checking (setting_checks (setting_of 2 2 22 1)) (6 ∷ 0 ∷ [])
    ∷ answering (choose_answer 2 8 2) (7 ∷ 0 ∷ [])
    -- in one list, and in the second of two
    ∷ answering (pack_answer (setting_of 2 2 2 1) (1 ∷ 2 ∷ [])) (8 ∷ 1 ∷ [])
    ∷ checking (product_checks tiny (1 ∷ []) (0 ∷ 2 ∷ []) 0) (8 ∷ 2 ∷ [])
    ∷ answering (pack_answer tiny []) (9 ∷ 0 ∷ [])
    ∷ checking (places_checks tiny 0 0) (10 ∷ 0 ∷ [])
    -- alone, and in a list
    ∷ checking (word_checks tiny 2) (11 ∷ 0 ∷ [])
    ∷ checking (words_checks tiny (0 ∷ 2 ∷ [])) (11 ∷ 1 ∷ [])
    ∷ checking (feed_checks (record_of (setting_of 0 0 0 0) fresh_sum) [] []) (12 ∷ 0 ∷ [])
    ∷ checking (feed_checks (record_of tiny (record { total = 1000000; word = 0; residues = replicate 15 0 })) (0 ∷ []) (0 ∷ [])) (13 ∷ 0 ∷ [])
    ∷ checking (table_checks (setting_of 128 1 14 1)) (14 ∷ 0 ∷ [])
    -- a buffer that has ended, and one with another length in its fourth byte
    ∷ checking (by_table_checks tiny [] [] 0) (15 ∷ 0 ∷ [])
    ∷ checking (by_table_checks tiny (0 ∷ 0 ∷ 0 ∷ 9 ∷ []) [] 0) (15 ∷ 3 ∷ [])
    ∷ checking (make_checks (setting_of 2 1 53 1)) (16 ∷ 0 ∷ [])
    ∷ checking (job_checks []) (17 ∷ 0 ∷ [])
    ∷ checking (write_checks 9 [] 0) (19 ∷ 0 ∷ [])
    ∷ checking (write_checks 0 [] 0) (20 ∷ 0 ∷ [])
    ∷ checking (write_checks 0 (replicate 927 0) 0) (21 ∷ 0 ∷ [])
    ∷ []

pub refusals-agree : Agree refusal_rows
unfolding refusal_rows tiny first setting_checks escapes smallest_width none_cause choose_answer word_checks words_checks places_checks taken pack_answer feed_overflow factor_checks product_checks sum_cause record_cause pair_checks feed_checks table table_checks by_table_checks make_checks header_checks job_checks write_checks
refusals-agree = refl
