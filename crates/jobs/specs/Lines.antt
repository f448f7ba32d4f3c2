-- The line that a job is answered with, in ASCII bytes. Definitions only; LineLaws shows what it is read back as.
--     sums_line s pairs reductions sums       p, k, t, n, pairs, reductions, a colon directly after, the coefficients, and a line end
--     refused_line number place               `refused`, number, place, and a line end
use Rattle.std.specs.Prelude.{ℕ, List, [], ◌∷◌, ◌++◌}
use Rattle.layout.specs.Decimals.{decimal}
use Rattle.texts.specs.Putting.{colon, line_end, spaced, refused_text}
use Rattle.settings.specs.declared.setting.Setting.{Setting}

unfoldable pub sums_line : Setting → ℕ → ℕ → List ℕ → List ℕ
sums_line s pairs reductions sums =
    decimal s.p ++ spaced (s.k ∷ s.t ∷ s.n ∷ pairs ∷ reductions ∷ []) ++ (colon ∷ spaced sums) ++ (line_end ∷ [])

unfoldable pub refused_line : ℕ → ℕ → List ℕ
refused_line number place = refused_text number place ++ (line_end ∷ [])
