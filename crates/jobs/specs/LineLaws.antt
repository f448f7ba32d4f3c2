-- Reading a line back gives the numbers that it was made of, and no line is longer than the longest. Assumes nothing.
--     read-sums              p, k, t, n, pairs, reductions and the coefficients, in this order
--     read-refused           number and place
--     sums-line-short        a line of numbers that are short, with coefficients of 16 bits, is not longer than the longest
--     refused-line-short     nor is the line of a refusal of two 64-bit numbers
use Rattle.std.specs.Prelude.{ℕ, suc, ◌*◌, ◌^◌, ◌≤◌, ◌<◌, ◌≡◌, refl, List, [], ◌∷◌, ◌++◌, length}
use Rattle.std.proofs.Common.{ap, ◌∙◌, append-nil, append_assoc, arith, length-append}
use Rattle.polynomials.specs.Lists.{Below}
use Rattle.layout.specs.Decimals.{digits, decimal, numbers_in, digits-most, length-decimal}
use Rattle.texts.specs.Putting.{colon, line_end, spaced, refused_text}
use Rattle.texts.specs.SpacedLaws.{read-spaced}
use Rattle.texts.specs.PuttingLaws.{word-digits}
use Rattle.settings.specs.declared.setting.Setting.{Setting}
use Rattle.jobs.specs.Lines.{sums_line, refused_line}
use Rattle.jobs.specs.Texts.{longest_line, Short}

-- ---- reading

pub read-sums : (s : Setting) (pairs reductions : ℕ) (sums : List ℕ)
    → numbers_in (sums_line s pairs reductions sums) ≡ s.p ∷ s.k ∷ s.t ∷ s.n ∷ pairs ∷ reductions ∷ sums
unfolding sums_line
read-sums s pairs reductions sums =
    let numbers : List ℕ = s.k ∷ s.t ∷ s.n ∷ pairs ∷ reductions ∷ [] in
    ap numbers_in (append_assoc (decimal s.p ++ spaced numbers) (colon ∷ spaced sums) (line_end ∷ []))
    ∙ read-spaced (s.p ∷ numbers) colon (spaced sums ++ (line_end ∷ [])) refl
    ∙ ap (λ (xs : List ℕ). (s.p ∷ numbers) ++ xs) (read-spaced sums line_end [] refl ∙ append-nil sums)

pub read-refused : (number place : ℕ) → numbers_in (refused_line number place) ≡ number ∷ place ∷ []
unfolding refused_line refused_text
read-refused number place = read-spaced (number ∷ place ∷ []) line_end [] refl

-- ---- lengths

coefficient-digits : (n : ℕ) → n < 65536 → digits n ≤ 5
coefficient-digits n h = digits-most n 5 (omega arith) (omega arith)

length-list : (ns : List ℕ) → Below 65536 ns → length (spaced ns) ≤ 6 * length ns
length-list [] h = omega arith
length-list (n ∷ ns) h = simp length-append (omega (arith, length-decimal n, coefficient-digits n (h 0), length-list ns (λ j. h (suc j))))

record FewDigits (s : Setting) (pairs reductions : ℕ) : Type 0 where
  pub p_few : digits s.p ≤ 5
  pub k_few : digits s.k ≤ 1
  pub t_few : digits s.t ≤ 2
  pub n_few : digits s.n ≤ 7
  pub pairs_few : digits pairs ≤ 7
  pub reductions_few : digits reductions ≤ 7

few-digits : (s : Setting) (pairs reductions : ℕ) (sums : List ℕ) → Short s pairs reductions sums → FewDigits s pairs reductions
few-digits s pairs reductions sums h =
    record {
      p_few = digits-most s.p 5 (omega arith) (omega (arith, h.range.choice.p_high));
      k_few = digits-most s.k 1 (omega arith) (omega (arith, h.range.choice.k_high));
      t_few = digits-most s.t 2 (omega arith) (omega (arith, h.range.t_high));
      n_few = digits-most s.n 7 (omega arith) (omega (arith, h.range.choice.n_high));
      pairs_few = digits-most pairs 7 (omega arith) (omega (arith, h.pairs_most));
      reductions_few = digits-most reductions 7 (omega arith) (omega (arith, h.reductions_most));
    }

pub sums-line-short : (s : Setting) (pairs reductions : ℕ) (sums : List ℕ) → Short s pairs reductions sums → Below 65536 sums
    → length (sums_line s pairs reductions sums) ≤ longest_line
unfolding sums_line
sums-line-short s pairs reductions sums h below =
    let few = few-digits s pairs reductions sums h in
    simp (length-append, length-decimal) (omega (arith, few.p_few, few.k_few, few.t_few, few.n_few, few.pairs_few, few.reductions_few, length-list sums below, h.places_most))

pub refused-line-short : (number place : ℕ) → number < 2 ^ 64 → place < 2 ^ 64 → length (refused_line number place) ≤ longest_line
unfolding refused_line refused_text
refused-line-short number place hn hp = simp (length-append, length-decimal) (omega (arith, word-digits number hn, word-digits place hp))
