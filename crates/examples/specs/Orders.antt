-- The order of the checks, call by call: inputs that meet a cause and the later ones of the call beside it, with the number and place of the first. The prover
-- computes what the definitions give and compares, so that checks which are exchanged in a definition and in the code alike are seen here.
--     narrow                 p=3, k=2, t=3, n=1, which is 5
--     wide                   p=131, k=1, t=15, n=1, which has no table
--     orders, orders-agree   the table, and that its two sides are the same
--     lane_orders, lane-orders-agree
--                            the table of the lane
use Rattle.std.specs.Prelude.{◌+◌, ◌*◌, ◌≡◌, refl, true, List, [], ◌∷◌, ◌++◌, take, drop}
use Rattle.polynomials.specs.Indices.{first}
use Rattle.doubles.specs.Whole.{double}
use Rattle.settings.specs.Settings.{setting_checks, setting_of}
use Rattle.settings.specs.Choices.{escapes, smallest_width, none_cause, choose_answer}
use Rattle.words.specs.Places.{word_checks, words_checks, places_checks, reduce_answer}
use Rattle.packed.specs.Taken.{taken}
use Rattle.packed.specs.Packing.{pack_answer}
use Rattle.packed.specs.Overflow.{overflow_cause, feed_overflow}
use Rattle.packed.specs.Products.{factor_checks, product_checks}
use Rattle.packed.specs.Running.{sum_cause, record_cause, pair_checks, feed_checks, close_checks}
use Rattle.tables.specs.Tables.{table, table_checks, build_checks, by_table_checks}
use Rattle.lane.specs.Lanes.{make_checks, lane_of, held_cause, lane_sum_checks, reduce_checks}
use Rattle.jobs.specs.Jobs.{header_checks, job_checks}
use Rattle.labels.specs.Labels.{write_checks, read_checks}
use Rattle.exports.specs.Exports.{whole_sum_checks}
use Rattle.examples.specs.Compared.{Row, Agree, answering, checking}
use Rattle.examples.specs.Inputs.{given, small, zeros, held, table_bytes, header, long, lane, lane-held}
use Rattle.settings.specs.declared.setting.Setting.{Setting}

abbrev narrow : Setting
narrow = setting_of 3 2 3 1

abbrev wide : Setting
wide = setting_of 131 1 15 1

pub orders : List Row
orders =
    -- check: 1, 2, 3, 4, 5, 6
    checking (setting_checks (setting_of 0 0 0 0)) (given 1)
    ∷ checking (setting_checks (setting_of 2 0 0 0)) (given 2)
    ∷ checking (setting_checks (setting_of 2 1 0 0)) (given 3)
    ∷ checking (setting_checks (setting_of 2 1 0 1)) (given 4)
    ∷ checking (setting_checks (setting_of 65536 2 31 1)) (given 5)
    -- choose: 1, 2, 3, 7
    ∷ answering (choose_answer 65537 9 0) (given 1)
    ∷ answering (choose_answer 65536 9 0) (given 2)
    ∷ answering (choose_answer 65536 8 1048577) (given 3)
    -- pack: 1 to 6, 9, 8
    ∷ answering (pack_answer narrow (3 ∷ [])) (given 5)
    ∷ answering (pack_answer small (3 ∷ [])) (given 9)
    -- unpack and shifted residues: 1 to 6, 11, 10; reduce: 1 to 6, 11
    ∷ checking (places_checks narrow 4096 0) (given 5)
    ∷ checking (places_checks small 4096 0) (given 11)
    ∷ answering (reduce_answer narrow 4096) (given 5)
    ∷ checking (words_checks narrow (4096 ∷ [])) (given 5)
    -- build: 1 to 6, 14, 10
    ∷ checking (build_checks (setting_of 131 1 14 1) 0) (given 5)
    ∷ checking (build_checks wide 0) (given 14)
    -- reduce by table: 1 to 6, 14, 15, 10, 11
    ∷ checking (by_table_checks (setting_of 131 1 14 1) [] (32768 ∷ []) 0) (given 5)
    ∷ checking (by_table_checks wide [] (32768 ∷ []) 0) (given 14)
    ∷ checking (by_table_checks small (0 ∷ []) (4096 ∷ []) 0) (15 ∷ 1 ∷ [])
    ∷ checking (by_table_checks small (table_bytes 0) (4096 ∷ []) 0) (given 10)
    -- product: 1 to 6, 9, 8, 10
    ∷ checking (product_checks narrow (long 3 4097) (3 ∷ []) 0) (given 5)
    ∷ checking (product_checks small (long 3 4097) (3 ∷ []) 0) (given 9)
    ∷ checking (product_checks small (0 ∷ []) (3 ∷ []) 0) (8 ∷ 1 ∷ [])
    -- feed: 12, 9, 13, 8
    ∷ checking (feed_checks (held 1000001 0 zeros) (3 ∷ 3 ∷ 3 ∷ []) []) (given 12)
    ∷ checking (feed_checks (held 1000000 0 zeros) (3 ∷ 3 ∷ 3 ∷ []) []) (given 9)
    ∷ checking (feed_checks (held 1000000 0 zeros) (3 ∷ 3 ∷ []) (3 ∷ 3 ∷ [])) (given 13)
    -- close: 12, 10
    ∷ checking (close_checks (held 1000001 0 zeros) 0) (given 12)
    -- make: 1 to 6, 16
    ∷ checking (make_checks (setting_of 2 2 22 1)) (given 6)
    -- job: 17 of the header, 1 to 6, 17 of the pairs' bytes, 13, 8, 17 of the end
    ∷ checking (job_checks (take 4 (header 12) ++ (2 ∷ 0 ∷ []))) (given 17)
    ∷ checking (job_checks (take 4 (header 12) ++ (2 ∷ 0 ∷ 0 ∷ 0 ∷ 0 ∷ drop 9 (header 12)))) (given 17)
    ∷ checking (job_checks (take 8 (header 12) ++ (1 ∷ drop 9 (header 12)))) (given 1)
    ∷ checking (job_checks (header (12 + 4 * 1000001))) (given 17)
    ∷ checking (job_checks (header (11 + 4 * 1000001) ++ (0 ∷ 2 ∷ []))) (given 13)
    ∷ checking (job_checks (header 15 ++ (0 ∷ 1 ∷ 0 ∷ 2 ∷ 0 ∷ []))) (8 ∷ 1 ∷ [])
    -- write a label: 19, 20, 21, 8, 10
    ∷ checking (write_checks 9 [] 0) (given 19)
    ∷ checking (write_checks 0 [] 0) (given 20)
    ∷ checking (write_checks 8 (long 929 417) 0) (given 21)
    ∷ checking (write_checks 0 (0 ∷ 929 ∷ []) 0) (8 ∷ 1 ∷ [])
    -- check a label: 19, 20, 21, 8
    ∷ checking (read_checks 9 (929 ∷ [])) (given 19)
    ∷ checking (read_checks 0 (929 ∷ [])) (given 20)
    ∷ checking (read_checks 0 (long 929 929)) (given 21)
    -- the exported sum: 1 to 6, 9, 13, 8, 10
    ∷ checking (whole_sum_checks narrow (3 ∷ []) [] 0) (given 5)
    ∷ checking (whole_sum_checks small (3 ∷ []) [] 0) (given 9)
    ∷ checking (whole_sum_checks small (0 ∷ 3 ∷ []) (0 ∷ 0 ∷ []) 0) (8 ∷ 1 ∷ [])
    ∷ []

pub orders-agree : Agree orders
unfolding orders given held zeros table_bytes header long first setting_checks escapes smallest_width none_cause choose_answer word_checks words_checks places_checks reduce_answer taken pack_answer overflow_cause factor_checks product_checks sum_cause record_cause feed_overflow pair_checks feed_checks close_checks table table_checks build_checks by_table_checks make_checks header_checks job_checks write_checks read_checks whole_sum_checks
orders-agree = refl

narrow-12 : held_cause (lane_of narrow) ≡ true
unfolding held_cause make_checks setting_checks
narrow-12 = refl

-- sum in doubles: 12, 9, 13, 8; reduce in doubles: 12, 11
pub lane_orders : List Row
lane_orders =
    checking (lane_sum_checks (lane_of narrow) (3 ∷ 3 ∷ 3 ∷ 3 ∷ 3 ∷ []) []) (given 12)
    ∷ checking (lane_sum_checks lane (3 ∷ 3 ∷ 3 ∷ 3 ∷ 3 ∷ []) []) (given 9)
    ∷ checking (lane_sum_checks lane (3 ∷ 3 ∷ 3 ∷ 3 ∷ []) (3 ∷ 3 ∷ 3 ∷ 3 ∷ [])) (given 13)
    ∷ checking (reduce_checks (lane_of narrow) (double 4096)) (given 12)
    ∷ []

pub lane-orders-agree : Agree lane_orders
unfolding lane_orders given lane_sum_checks reduce_checks
lane-orders-agree = rw (narrow-12, lane-held)
