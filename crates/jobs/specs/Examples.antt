-- Document 01's three-pair job, from the definition. Assumes nothing.
--     three_pairs        its bytes: p=3, k=2, t=5, n=2, and three times the pair (1,2), (2,2)
--     three-pairs       the line is `3 2 5 2 3 2: 0 0 0`; the prover computes it and compares
--     early, extra      with a byte less, and with a byte more, it is `refused 17 0`
use Rattle.std.specs.Prelude.{◌≡◌, refl, List, [], ◌∷◌, ◌++◌, ℕ, take}
use Rattle.polynomials.specs.Indices.{first}
use Rattle.layout.specs.Decimals.{digits, decimal}
use Rattle.settings.specs.Settings.{setting_checks}
use Rattle.packed.specs.Taken.{taken}
use Rattle.texts.specs.Putting.{refused_text}
use Rattle.jobs.specs.Lines.{sums_line, refused_line}
use Rattle.jobs.specs.Jobs.{header_checks, job_checks, job_line}

abbrev one_pair : List ℕ
one_pair = 0 ∷ 1 ∷ 0 ∷ 2 ∷ 0 ∷ 2 ∷ 0 ∷ 2 ∷ []

abbrev pub three_pairs : List ℕ
three_pairs = (0 ∷ 0 ∷ 0 ∷ 35 ∷ 1 ∷ 0 ∷ 0 ∷ 0 ∷ 3 ∷ 2 ∷ 5 ∷ 0 ∷ 0 ∷ 0 ∷ 2 ∷ []) ++ one_pair ++ one_pair ++ one_pair

pub three-pairs : job_line three_pairs ≡ 51 ∷ 32 ∷ 50 ∷ 32 ∷ 53 ∷ 32 ∷ 50 ∷ 32 ∷ 51 ∷ 32 ∷ 50 ∷ 58 ∷ 32 ∷ 48 ∷ 32 ∷ 48 ∷ 32 ∷ 48 ∷ 10 ∷ []
unfolding job_line job_checks header_checks sums_line refused_line refused_text decimal digits first setting_checks taken
three-pairs = refl

pub early : job_line (take 38 three_pairs) ≡ 114 ∷ 101 ∷ 102 ∷ 117 ∷ 115 ∷ 101 ∷ 100 ∷ 32 ∷ 49 ∷ 55 ∷ 32 ∷ 48 ∷ 10 ∷ []
unfolding job_line job_checks header_checks sums_line refused_line refused_text decimal digits first setting_checks taken
early = refl

pub extra : job_line (three_pairs ++ (0 ∷ [])) ≡ 114 ∷ 101 ∷ 102 ∷ 117 ∷ 115 ∷ 101 ∷ 100 ∷ 32 ∷ 49 ∷ 55 ∷ 32 ∷ 48 ∷ 10 ∷ []
unfolding job_line job_checks header_checks sums_line refused_line refused_text decimal digits first setting_checks taken
extra = refl
