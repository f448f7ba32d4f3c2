-- The limits of document 01 and of request T-07, each on both sides, through the checks of the calls: what the definitions give, beside what the documents
-- say, counted by hand from their words. The prover computes the first and compares, so that a limit which is changed in a definition and in the code
-- alike is seen here.
--     feeding, closing         the checks of a feed of one pair to a record, and of closing one; shaped, of feeding two lists of these lengths
--     edges, edges-agree       the table, and that its two sides are the same
--     long_edges, long-agree    the same of limits on long lists
--     lane_edges, lane-agree    the same of the lane: 13 and 11
use Rattle.std.specs.Prelude.{ℕ, ◌+◌, ◌*◌, refl, List, [], ◌∷◌, ◌++◌, map, length, replicate, take, drop}
use Rattle.std.specs.Float.Ieee.{in_unsigned, whole, of_int, to_unsigned}
use Rattle.polynomials.specs.Indices.{first, rounded_up}
use Rattle.doubles.specs.Whole.{double}
use Rattle.settings.specs.Answers.{Verdict}
use Rattle.settings.specs.Settings.{setting_checks, setting_of, places}
use Rattle.settings.specs.Coefficients.{first_bad, coefficients_check}
use Rattle.words.specs.Places.{word_checks, words_checks, places_checks}
use Rattle.packed.specs.Taken.{taken}
use Rattle.packed.specs.Packing.{pack_answer}
use Rattle.packed.specs.Overflow.{overflow_cause, feed_overflow}
use Rattle.packed.specs.Products.{factor_checks, product_checks}
use Rattle.packed.specs.Running.{sum_cause, record_cause, pair_checks, feed_checks, close_checks, fresh_sum, record_of}
use Rattle.tables.specs.Tables.{table, table_checks, build_checks, by_table_checks}
use Rattle.lane.specs.Lanes.{make_checks, lane_sum_checks, reduce_checks}
use Rattle.jobs.specs.Jobs.{header_checks, job_checks}
use Rattle.labels.specs.Labels.{write_checks, read_checks}
use Rattle.exports.specs.Exports.{whole_sum_checks}
use Rattle.examples.specs.Compared.{Row, Agree, answering, checking}
use Rattle.examples.specs.Inputs.{passes, given, small, held, zeros, table_bytes, header, long, lane, lane-held}

feeding : ℕ → Verdict
feeding total = feed_checks (held total 0 zeros) (1 ∷ 2 ∷ []) (2 ∷ 2 ∷ [])

shaped : ℕ → ℕ → Verdict
shaped m n = feed_checks (held 0 0 zeros) (replicate m 0) (replicate n 0)

closing : ℕ → ℕ → List ℕ → Verdict
closing total word residues = close_checks (held total word residues) 3

pub edges : List Row
edges =
    -- 1: p from 2 to 65,536
    checking (setting_checks (setting_of 1 1 1 1)) (given 1)
    ∷ checking (setting_checks (setting_of 2 1 1 1)) passes
    ∷ checking (setting_checks (setting_of 65536 1 63 1)) passes
    ∷ checking (setting_checks (setting_of 65537 1 63 1)) (given 1)
    -- 2: k from 1 to 8
    ∷ checking (setting_checks (setting_of 2 0 1 1)) (given 2)
    ∷ checking (setting_checks (setting_of 2 8 4 1)) passes
    ∷ checking (setting_checks (setting_of 2 9 4 1)) (given 2)
    -- 3: n from 1 to 1,048,576
    ∷ checking (setting_checks (setting_of 2 1 63 0)) (given 3)
    ∷ checking (setting_checks (setting_of 2 1 63 1048576)) passes
    ∷ checking (setting_checks (setting_of 2 1 63 1048577)) (given 3)
    -- 4: t from 1 to 63
    ∷ checking (setting_checks (setting_of 2 1 0 1)) (given 4)
    ∷ checking (setting_checks (setting_of 2 1 63 1)) passes
    ∷ checking (setting_checks (setting_of 2 1 64 1)) (given 4)
    -- 5: at p = 3, k = 2 a place needs more than 8 for n = 1, and more than 16 for n = 2
    ∷ checking (setting_checks (setting_of 3 2 3 1)) (given 5)
    ∷ checking (setting_checks small) passes
    ∷ checking (setting_checks (setting_of 3 2 4 2)) (given 5)
    ∷ checking (setting_checks (setting_of 3 2 5 2)) passes
    -- 6: 63 bits, and the fewest above, since 64 is no odd number's multiple but of 1: 65
    ∷ checking (setting_checks (setting_of 2 2 21 1)) passes
    ∷ checking (setting_checks (setting_of 2 3 13 1)) (given 6)
    -- 8: below 3, in two lists; the first is searched first
    ∷ checking (coefficients_check 3 (2 ∷ 0 ∷ []) (2 ∷ 2 ∷ [])) passes
    ∷ checking (coefficients_check 3 (2 ∷ 0 ∷ []) (2 ∷ 3 ∷ [])) (8 ∷ 3 ∷ [])
    ∷ checking (coefficients_check 3 (2 ∷ 3 ∷ []) (4 ∷ 3 ∷ [])) (8 ∷ 1 ∷ [])
    ∷ record { gives = first_bad 3 (2 ∷ 0 ∷ []) ∷ first_bad 3 (2 ∷ 3 ∷ 3 ∷ []) ∷ []; prints = 2 ∷ 1 ∷ [] }
    -- and in a job, of k = 1: the second of its coefficients is not below 2
    ∷ checking (job_checks (header 15 ++ (0 ∷ 1 ∷ 0 ∷ 1 ∷ []))) passes
    ∷ checking (job_checks (header 15 ++ (0 ∷ 1 ∷ 0 ∷ 2 ∷ []))) (8 ∷ 1 ∷ [])
    -- 9: k coefficients to pack; to feed, lists of one length, a multiple of k
    ∷ answering (pack_answer small (1 ∷ [])) (given 9)
    ∷ answering (pack_answer small (1 ∷ 2 ∷ [])) (0 ∷ 0 ∷ 33 ∷ [])
    ∷ answering (pack_answer small (1 ∷ 2 ∷ 0 ∷ [])) (given 9)
    ∷ checking (shaped 0 0) passes
    ∷ checking (shaped 1 1) (given 9)
    ∷ checking (shaped 2 2) passes
    ∷ checking (shaped 2 4) (given 9)
    ∷ checking (shaped 4 2) (given 9)
    -- 10: la + lb - 1 coefficients, and none with an empty list; 2k-1 places; 8 + p^2 bytes
    ∷ checking (product_checks small (1 ∷ 2 ∷ []) (2 ∷ 2 ∷ []) 2) (given 10)
    ∷ checking (product_checks small (1 ∷ 2 ∷ []) (2 ∷ 2 ∷ []) 3) passes
    ∷ checking (product_checks small (1 ∷ 2 ∷ []) [] 0) passes
    ∷ checking (places_checks small 0 2) (given 10)
    ∷ checking (places_checks small 0 3) passes
    ∷ checking (close_checks (held 0 0 zeros) 2) (given 10)
    ∷ checking (close_checks (held 0 0 zeros) 3) passes
    ∷ checking (whole_sum_checks small [] [] 2) (given 10)
    ∷ checking (whole_sum_checks small [] [] 3) passes
    ∷ checking (build_checks small 16) (given 10)
    ∷ checking (build_checks small 17) passes
    -- and by table a word for each word
    ∷ checking (by_table_checks small (table_bytes 0) (0 ∷ 0 ∷ []) 1) (given 10)
    ∷ checking (by_table_checks small (table_bytes 0) (0 ∷ 0 ∷ []) 2) passes
    -- 11: words of 12 bits
    ∷ checking (word_checks small 4095) passes
    ∷ checking (word_checks small 4096) (given 11)
    ∷ checking (words_checks small (4095 ∷ 0 ∷ [])) passes
    ∷ checking (words_checks small (4095 ∷ 4096 ∷ 4097 ∷ [])) (11 ∷ 1 ∷ [])
    ∷ checking (by_table_checks small (table_bytes 0) (4095 ∷ 4096 ∷ 4097 ∷ []) 3) (11 ∷ 1 ∷ [])
    -- also where there is no word the setting is tested
    ∷ checking (words_checks small []) passes
    ∷ checking (words_checks (setting_of 3 2 3 1) []) (given 5)
    -- 12: a total of 1,000,000; with one open pair 4, 8 and 4 in the fields, and nothing above them; residues below 3 in 3 places; 15 of them
    ∷ checking (closing 1000000 0 zeros) passes
    ∷ checking (closing 1000001 0 zeros) (given 12)
    ∷ checking (closing 1 (4 + 8 * 32 + 4 * 1024) zeros) passes
    ∷ checking (closing 1 5 zeros) (given 12)
    ∷ checking (closing 1 (9 * 32) zeros) (given 12)
    ∷ checking (closing 1 (5 * 1024) zeros) (given 12)
    ∷ checking (closing 1 32768 zeros) (given 12)
    ∷ checking (closing 2 1 zeros) (given 12)
    ∷ checking (close_checks (record_of (setting_of 3 2 3 1) fresh_sum) 3) (given 12)
    ∷ checking (closing 0 0 (0 ∷ 0 ∷ 2 ∷ replicate 12 0)) passes
    ∷ checking (closing 0 0 (0 ∷ 0 ∷ 3 ∷ replicate 12 0)) (given 12)
    ∷ checking (closing 0 0 (0 ∷ 0 ∷ 0 ∷ 1 ∷ replicate 11 0)) (given 12)
    ∷ record { gives = length fresh_sum.residues ∷ places (setting_of 2 8 4 1) ∷ []; prints = 15 ∷ 15 ∷ [] }
    -- reductions of 0, 1, 2 and 3 pairs, for n = 2
    ∷ record { gives = map (λ (m : ℕ). rounded_up m 2) (0 ∷ 1 ∷ 2 ∷ 3 ∷ []); prints = 0 ∷ 1 ∷ 1 ∷ 2 ∷ [] }
    -- 13: 1,000,000 pairs, in a record and in a job
    ∷ checking (feeding 999999) passes
    ∷ checking (feeding 1000000) (given 13)
    ∷ checking (header_checks (header (11 + 4 * 1000000))) passes
    ∷ checking (header_checks (header (11 + 4 * 1000001))) (given 13)
    -- 14: p up to 127
    ∷ checking (table_checks (setting_of 127 1 14 1)) passes
    ∷ checking (table_checks (setting_of 128 1 14 1)) (given 14)
    -- 15: all 17 bytes, and none after them
    ∷ checking (by_table_checks small (table_bytes 0) [] 0) passes
    ∷ checking (by_table_checks small (table_bytes 0 ++ (9 ∷ [])) [] 0) passes
    ∷ checking (by_table_checks small (table_bytes 1) [] 0) (15 ∷ 16 ∷ [])
    ∷ checking (by_table_checks small (take 16 (table_bytes 0)) [] 0) (15 ∷ 16 ∷ [])
    -- 16: fewer than 53 bits
    ∷ checking (make_checks (setting_of 2 1 52 1)) passes
    ∷ checking (make_checks (setting_of 2 1 53 1)) (given 16)
    -- 17: a length of 11, a multiple of 4k after it, 15 bytes, version 1
    ∷ checking (header_checks (header 11)) passes
    ∷ checking (header_checks (header 10)) (given 17)
    ∷ checking (header_checks (header 12)) (given 17)
    ∷ checking (header_checks (take 14 (header 11))) (given 17)
    ∷ checking (header_checks (take 4 (header 11) ++ (2 ∷ drop 5 (header 11)))) (given 17)
    -- 19: levels up to 8; the highest has 512 check words
    ∷ checking (write_checks 8 (928 ∷ []) 513) passes
    ∷ checking (write_checks 8 (928 ∷ []) 512) (given 10)
    ∷ checking (write_checks 9 (928 ∷ []) 1025) (given 19)
    ∷ checking (read_checks 9 []) (given 19)
    -- 8 of a label: words below 929
    ∷ checking (write_checks 0 (0 ∷ 929 ∷ []) 4) (8 ∷ 1 ∷ [])
    ∷ checking (read_checks 0 (0 ∷ 0 ∷ 928 ∷ [])) passes
    ∷ checking (read_checks 0 (0 ∷ 0 ∷ 929 ∷ [])) (8 ∷ 2 ∷ [])
    -- 20: one data word; beside two check words a third word
    ∷ checking (write_checks 0 [] 2) (given 20)
    ∷ checking (read_checks 0 (0 ∷ 0 ∷ [])) (given 20)
    ∷ checking (read_checks 0 (0 ∷ 0 ∷ 0 ∷ [])) passes
    ∷ []

pub edges-agree : Agree edges
unfolding edges passes given held zeros feeding shaped closing table_bytes header first setting_checks word_checks words_checks places_checks taken pack_answer overflow_cause factor_checks product_checks sum_cause record_cause feed_overflow pair_checks feed_checks close_checks table table_checks build_checks by_table_checks make_checks header_checks job_checks write_checks read_checks whole_sum_checks
edges-agree = refl

-- ---- long lists

pub long_edges : List Row
long_edges =
    -- 9 of product: 4,096 coefficients, in either list
    checking (product_checks small (long 3 4096) (long 3 4096) 0) (8 ∷ 0 ∷ [])
    ∷ checking (product_checks small (long 3 4097) [] 0) (given 9)
    ∷ checking (product_checks small [] (long 3 4097) 0) (given 9)
    -- 21: 928 words in all
    ∷ checking (write_checks 0 (long 929 926) 928) (8 ∷ 0 ∷ [])
    ∷ checking (write_checks 0 (long 929 927) 929) (given 21)
    ∷ checking (read_checks 0 (long 929 928)) (8 ∷ 0 ∷ [])
    ∷ checking (read_checks 0 (long 929 929)) (given 21)
    ∷ []

pub long-agree : Agree long_edges
unfolding long_edges given long first setting_checks factor_checks product_checks write_checks read_checks
long-agree = refl

-- ---- the double lane

-- 13: n pairs, which is one; 11: words of 12 bits
pub lane_edges : List Row
lane_edges =
    checking (lane_sum_checks lane (1 ∷ 2 ∷ []) (2 ∷ 2 ∷ [])) passes
    ∷ checking (lane_sum_checks lane (1 ∷ 2 ∷ 0 ∷ 0 ∷ []) (2 ∷ 2 ∷ 0 ∷ 0 ∷ [])) (given 13)
    ∷ checking (reduce_checks lane (double 4095)) passes
    ∷ checking (reduce_checks lane (double 4096)) (given 11)
    ∷ []

pub lane-agree : Agree lane_edges
unfolding lane_edges passes given first lane_sum_checks reduce_checks in_unsigned whole of_int to_unsigned
lane-agree = rw lane-held
