-- "The job program": what the bytes of a job mean, as one function from the list of all of them to the line. Definitions only.
-- Numbers are big-endian: a 4-byte length of what follows, version byte 1, p in 4 bytes, k in 1, t in 1, n in 4, then pairs, each k
-- coefficients of the first and k of the second, 2 bytes each.
--     header_bytes, length_bytes      15, and the 4 of the length; the length counts the other 11 and the pairs
--     length_in, version_in, setting_in
--                                   the header's numbers, by position
--     pair_bytes k                   4k, the bytes of a pair
--     declared_bytes, declared_pairs  the bytes of pairs that the length declares, and how many pairs they are
--     header_cause                   17 Job: the header is incomplete (fewer than 15 bytes in all), the version is not 1, or the length is below 11
--     ragged_cause                   17 Job: length - 11 is no multiple of 4k
--     end_cause                      17 Job: an early end, or extra bytes
--     coefficients_in bs             the whole coefficients in bytes, in their order; half a coefficient is none
--     given_in bs                    those of a job, as far as its bytes go and no further than it declares
--     pairs_in k cs                  coefficients in input order, taken as pairs: k of the first and k of the second
--     header_checks bs               17, 1 to 6, 17, 13: what the header decides
--     job_checks bs                  these, then 8 with the coefficient's index in the job, then 17
--     job-gives                     the numbers that these can give, and no other
--     job_pairs bs                   the pairs of a job, as packing takes them
--     line_by v line                 that line, or the line of the refusal
--     job_line bs                    the meaning of a job
use Rattle.std.specs.Prelude.{ℕ, ◌+◌, ◌-◌, ◌*◌, ◌/◌, ◌%◌, Bool, not, ◌||◌, List, [], ◌∷◌, ◌++◌, ltb, eqb, length, take, drop}
use Rattle.polynomials.specs.Indices.{upto, rounded_up}
use Rattle.polynomials.specs.Lists.{Pair}
use Rattle.polynomials.specs.Blocks.{block, pairs_upto}
use Rattle.layout.specs.Numbers.{number_at}
use Rattle.settings.specs.Answers.{answered, refused, Verdict, refuse, ◌and_then◌, Given}
use Rattle.settings.specs.AnswerLaws.{given-check, given-then}
use Rattle.settings.specs.Settings.{setting_checks, setting_numbers, setting-gives}
use Rattle.settings.specs.Coefficients.{coefficient_check, coefficient-gives}
use Rattle.packed.specs.Taken.{taken}
use Rattle.packed.specs.Running.{record_full_cause}
use Rattle.packed.specs.Calls.{schoolbook}
use Rattle.settings.specs.declared.setting.Setting.{Setting}
use Rattle.jobs.specs.Lines.{sums_line, refused_line}

-- ---- the header

abbrev pub header_bytes : ℕ
header_bytes = 15

abbrev pub length_bytes : ℕ
length_bytes = 4

abbrev pub length_in : List ℕ → ℕ
length_in bs = number_at bs 0 4

abbrev pub version_in : List ℕ → ℕ
version_in bs = number_at bs 4 1

abbrev pub setting_in : List ℕ → Setting
setting_in bs = record { p = number_at bs 5 4; k = number_at bs 9 1; t = number_at bs 10 1; n = number_at bs 11 4 }

abbrev pub pair_bytes : ℕ → ℕ
pair_bytes k = 4 * k

abbrev pub declared_bytes : List ℕ → ℕ
declared_bytes bs = length_in bs - (header_bytes - length_bytes)

abbrev pub declared_pairs : List ℕ → ℕ
declared_pairs bs = declared_bytes bs / pair_bytes (setting_in bs).k

abbrev pub header_cause : List ℕ → Bool
header_cause bs = ltb (length bs) header_bytes || (not (eqb (version_in bs) 1) || ltb (length_in bs) (header_bytes - length_bytes))

abbrev pub ragged_cause : List ℕ → Bool
ragged_cause bs = not (eqb (declared_bytes bs % pair_bytes (setting_in bs).k) 0)

-- ---- the pairs

abbrev pub coefficients_in : List ℕ → List ℕ
coefficients_in bs = upto (length bs / 2) (λ i. number_at bs (2 * i) 2)

abbrev pub pairs_in : ℕ → List ℕ → List Pair
pairs_in k cs = pairs_upto (length cs / (2 * k)) (λ i. block k cs (2 * i)) (λ i. block k cs (2 * i + 1))

abbrev pub given_in : List ℕ → List ℕ
given_in bs = coefficients_in (take (declared_bytes bs) (drop header_bytes bs))

abbrev pub end_cause : List ℕ → Bool
end_cause bs = not (eqb (length bs) (length_bytes + length_in bs))

abbrev pub job_pairs : List ℕ → List Pair
job_pairs bs = pairs_in (setting_in bs).k (taken (setting_in bs).p (given_in bs))

-- ---- the answer

unfoldable pub header_checks : List ℕ → Verdict
header_checks bs =
    refuse (header_cause bs) 17 0
    and_then setting_checks (setting_in bs)
    and_then refuse (ragged_cause bs) 17 0
    and_then refuse (record_full_cause 0 (declared_pairs bs)) 13 0

unfoldable pub job_checks : List ℕ → Verdict
job_checks bs = header_checks bs and_then coefficient_check (setting_in bs).p (given_in bs) and_then refuse (end_cause bs) 17 0

pub job-gives : (bs : List ℕ) → Given ((17 ∷ []) ++ (setting_numbers ++ (17 ∷ 13 ∷ 8 ∷ 17 ∷ []))) (job_checks bs)
unfolding job_checks header_checks
job-gives bs =
    given-then
    (given-then (given-check (header_cause bs) 17 0)
    (given-then (setting-gives (setting_in bs))
    (given-then (given-check (ragged_cause bs) 17 0) (given-check (record_full_cause 0 (declared_pairs bs)) 13 0))))
    (given-then (coefficient-gives (setting_in bs).p (given_in bs)) (given-check (end_cause bs) 17 0))

abbrev pub line_by : Verdict → List ℕ → List ℕ
line_by (answered x) line = line
line_by (refused number place) line = refused_line number place

unfoldable pub job_line : List ℕ → List ℕ
job_line bs =
    let s : Setting = setting_in bs in
    line_by (job_checks bs) (sums_line s (declared_pairs bs) (rounded_up (declared_pairs bs) s.n) (schoolbook s (job_pairs bs)))
