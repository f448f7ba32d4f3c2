-- "The setting and its numbers". A setting is p, k, t, n: modulus, coefficients per packed polynomial, bits per place, products added
-- before a reduction; setting_of p k t n is the setting of four numbers. The numbers 1 to 6, each given exactly when its cause holds and none before it:
--     modulus_cause p    1 Modulus: p outside 2..65,536
--     length_cause k     2 Length: k outside 1..8
--     batch_cause n      3 Batch: n outside 1..1,048,576
--     width_cause t      4 Width: t outside 1..63
--     narrow_cause s     5 Narrow: 2^t <= n k (p-1)^2
--     room_cause s       6 Room: (2k-1) t >= 64
-- 5 and 6 are condition (2) of document 003 with 64 bits. 7 stands in Choices, 8 in Coefficients, 10 in SharedAnswers; 11 in the crate `words`; in the
-- crate `packed` 9 in Packing, Products and Running, 12 and 13 in Running, 18 in Overflow; 14 and 15 in the crate `tables`; 16, and 11, 12 and 13 of the
-- double lane, in the crate `lane`; 17, and 12 of a job's state, in the crate `jobs`; 19 to 21 in the crate `labels`.
--     setting_checks     check a setting: 1 to 6 in order
--     setting_numbers    the numbers that it can give; setting-gives: it gives no other
--     base s            q = 2^t
--     places s          2k-1, the fields of a product
--     InChoice p k n    what 1 to 3 leave
--     InRange s         what 1 to 4 leave
--     Checks s r        the promise of check; check-once: it allows one answer only
use Rattle.std.specs.Prelude.{ℕ, ◌-◌, ◌*◌, ◌^◌, ◌≤◌, ◌≡◌, Bool, ◌||◌, List, [], ◌∷◌, ltb, leb, Result}
use Rattle.settings.specs.Limits.{largest_modulus, most_coefficients, largest_batch, widest, word_bits}
use Rattle.settings.specs.Answers.{Verdict, refuse, ◌and_then◌, Given}
use Rattle.settings.specs.AnswerLaws.{given-check, given-then}
use Rattle.settings.specs.Refusals.{says, says-once}
use Rattle.settings.specs.declared.refusals.Refusal.{Refusal}
use Rattle.settings.specs.declared.setting.Setting.{Setting}

abbrev pub setting_of : ℕ → ℕ → ℕ → ℕ → Setting
setting_of p k t n = record { p = p; k = k; t = t; n = n }

abbrev pub outside : ℕ → ℕ → ℕ → Bool
outside low high x = ltb x low || ltb high x

abbrev pub modulus_cause : ℕ → Bool
modulus_cause p = outside 2 largest_modulus p

abbrev pub length_cause : ℕ → Bool
length_cause k = outside 1 most_coefficients k

abbrev pub batch_cause : ℕ → Bool
batch_cause n = outside 1 largest_batch n

abbrev pub width_cause : ℕ → Bool
width_cause t = outside 1 widest t

abbrev pub base : Setting → ℕ
base s = 2 ^ s.t

abbrev pub places : Setting → ℕ
places s = 2 * s.k - 1

abbrev pub batch_top : Setting → ℕ
batch_top s = s.n * s.k * ((s.p - 1) * (s.p - 1))

abbrev pub narrow_cause : Setting → Bool
narrow_cause s = leb (base s) (batch_top s)

abbrev pub span_of : Setting → ℕ
span_of s = places s * s.t

abbrev pub room_cause : Setting → Bool
room_cause s = leb word_bits (span_of s)

unfoldable pub setting_checks : Setting → Verdict
setting_checks s =
    refuse (modulus_cause s.p) 1 0
    and_then refuse (length_cause s.k) 2 0
    and_then refuse (batch_cause s.n) 3 0
    and_then refuse (width_cause s.t) 4 0
    and_then refuse (narrow_cause s) 5 0
    and_then refuse (room_cause s) 6 0

abbrev pub setting_numbers : List ℕ
setting_numbers = 1 ∷ 2 ∷ 3 ∷ 4 ∷ 5 ∷ 6 ∷ []

pub setting-gives : (s : Setting) → Given setting_numbers (setting_checks s)
unfolding setting_checks
setting-gives s =
    given-then (given-check (modulus_cause s.p) 1 0)
    (given-then (given-check (length_cause s.k) 2 0)
    (given-then (given-check (batch_cause s.n) 3 0)
    (given-then (given-check (width_cause s.t) 4 0)
    (given-then (given-check (narrow_cause s) 5 0) (given-check (room_cause s) 6 0)))))

pub record InChoice (p k n : ℕ) : Type 0 where
  pub p_low : 2 ≤ p
  pub p_high : p ≤ largest_modulus
  pub k_low : 1 ≤ k
  pub k_high : k ≤ most_coefficients
  pub n_low : 1 ≤ n
  pub n_high : n ≤ largest_batch

pub record InRange (s : Setting) : Type 0 where
  pub choice : InChoice s.p s.k s.n
  pub t_low : 1 ≤ s.t
  pub t_high : s.t ≤ widest

abbrev pub Checks : Setting → Result (Unit {0}) Refusal → Type 0
Checks s r = says r ≡ setting_checks s

pub check-once : (s : Setting) (a b : Result (Unit {0}) Refusal) → Checks s a → Checks s b → a ≡ b
check-once s a b = says-once a b (setting_checks s)
