-- "Unpack", "Shifted residues" and "Reduce", each with its checks in order, and 11. A word has 2k-1 places.
--     word_cause s w               11 Word: a word >= 2^((2k-1)t)
--     word_checks s w              the setting's checks, then 11
--     first_bad_word s ws           the index of the first word that meets 11, and the length where there is none
--     words_check s ws             11 Word, with that place; words_checks s ws, the setting's checks, then this
--     word-gives, words-gives, places-gives, reduce-gives
--                                 the numbers that each of these lists of checks can give, and no other
--     ChecksWord, ChecksWords     the promises of check_word and check_words: these checks, of a word and of a list
--     places_checks s w len        these, then 10: a list of len elements is lent for an element a place
--     Unpacks s w old r after     the promise of unpack: the 2k-1 fields below q
--     ShiftedResidues s w old r after
--                                 of shifted residues: u_i = floor(w / q^i) mod p, i from 0 to 2k-2
--     reduced_word s w             the word whose field i is m_i, the old field modulo p
--     reduce_answer s w            the setting's checks, 11; then that word
--     Reduces s w r               the promise of reduce
--     check-word-once, check-words-once, unpack-once, shifted-residues-once, reduce-once
--                                 each promise allows one answer, and one list, only
use Rattle.std.specs.Prelude.{ℕ, ◌^◌, ◌≡◌, Bool, List, [], ◌∷◌, ◌++◌, leb, length, Result}
use Rattle.polynomials.specs.Indices.{upto, first, some}
use Rattle.polynomials.specs.Lists.{coefficient}
use Rattle.polynomials.specs.Places.{packed, fields, shifted, reduced}
use Rattle.settings.specs.Answers.{Answer, answered, Verdict, refuse, ◌and_then◌, Given}
use Rattle.settings.specs.AnswerLaws.{given-value, given-check, given-then}
use Rattle.settings.specs.SharedAnswers.{short_cause, Writes, writes-once}
use Rattle.settings.specs.Settings.{setting_checks, setting_numbers, setting-gives, base, places, span_of}
use Rattle.settings.specs.declared.setting.Setting.{Setting}
use Rattle.settings.specs.Refusals.{says, says-once}
use Rattle.settings.specs.declared.refusals.Refusal.{Refusal}

abbrev pub word_cause : Setting → ℕ → Bool
word_cause s w = leb (2 ^ span_of s) w

unfoldable pub word_checks : Setting → ℕ → Verdict
word_checks s w = setting_checks s and_then refuse (word_cause s w) 11 0

abbrev pub bad_word : Setting → List ℕ → ℕ → Bool
bad_word s ws i = word_cause s (coefficient ws i)

abbrev pub first_bad_word : Setting → List ℕ → ℕ
first_bad_word s ws = first (bad_word s ws) (length ws) 0

abbrev pub words_check : Setting → List ℕ → Verdict
words_check s ws = refuse (some (bad_word s ws) (length ws)) 11 (first_bad_word s ws)

unfoldable pub words_checks : Setting → List ℕ → Verdict
words_checks s ws = setting_checks s and_then words_check s ws

unfoldable pub places_checks : Setting → ℕ → ℕ → Verdict
places_checks s w len = word_checks s w and_then refuse (short_cause (places s) len) 10 0

pub word-gives : (s : Setting) (w : ℕ) → Given (setting_numbers ++ (11 ∷ [])) (word_checks s w)
unfolding word_checks
word-gives s w = given-then (setting-gives s) (given-check (word_cause s w) 11 0)

pub words-gives : (s : Setting) (ws : List ℕ) → Given (setting_numbers ++ (11 ∷ [])) (words_checks s ws)
unfolding words_checks
words-gives s ws = given-then (setting-gives s) (given-check (some (bad_word s ws) (length ws)) 11 (first_bad_word s ws))

pub places-gives : (s : Setting) (w len : ℕ) → Given (setting_numbers ++ (11 ∷ 10 ∷ [])) (places_checks s w len)
unfolding places_checks
places-gives s w len = given-then (word-gives s w) (given-check (short_cause (places s) len) 10 0)

-- ---- 11 alone

abbrev pub ChecksWord : Setting → ℕ → Result (Unit {0}) Refusal → Type 0
ChecksWord s w r = says r ≡ word_checks s w

pub check-word-once : (s : Setting) (w : ℕ) (a b : Result (Unit {0}) Refusal) → ChecksWord s w a → ChecksWord s w b → a ≡ b
check-word-once s w a b = says-once a b (word_checks s w)

abbrev pub ChecksWords : Setting → List ℕ → Result (Unit {0}) Refusal → Type 0
ChecksWords s ws r = says r ≡ words_checks s ws

pub check-words-once : (s : Setting) (ws : List ℕ) (a b : Result (Unit {0}) Refusal) → ChecksWords s ws a → ChecksWords s ws b → a ≡ b
check-words-once s ws a b = says-once a b (words_checks s ws)

-- ---- unpack

abbrev pub Unpacks : Setting → ℕ → List ℕ → Result ℕ Refusal → List ℕ → Type 0
Unpacks s w old r after = Writes (places_checks s w (length old)) (fields (base s) (places s) w) old r after

pub unpack-once : (s : Setting) (w : ℕ) (old : List ℕ) (a b : Result ℕ Refusal) (x y : List ℕ) → Unpacks s w old a x → Unpacks s w old b y → (a ≡ b) × (x ≡ y)
unpack-once s w old = writes-once (places_checks s w (length old)) (fields (base s) (places s) w) old

-- ---- shifted residues

abbrev pub ShiftedResidues : Setting → ℕ → List ℕ → Result ℕ Refusal → List ℕ → Type 0
ShiftedResidues s w old r after = Writes (places_checks s w (length old)) (upto (places s) (shifted s.p (base s) w)) old r after

pub shifted-residues-once : (s : Setting) (w : ℕ) (old : List ℕ) (a b : Result ℕ Refusal) (x y : List ℕ) → ShiftedResidues s w old a x → ShiftedResidues s w old b y
    → (a ≡ b) × (x ≡ y)
shifted-residues-once s w old = writes-once (places_checks s w (length old)) (upto (places s) (shifted s.p (base s) w)) old

-- ---- reduce

abbrev pub reduced_word : Setting → ℕ → ℕ
reduced_word s w = packed (base s) (upto (places s) (reduced s.p (base s) w))

unfoldable pub reduce_answer : Setting → ℕ → Answer ℕ
reduce_answer s w = word_checks s w and_then answered (reduced_word s w)

pub reduce-gives : (s : Setting) (w : ℕ) → Given (setting_numbers ++ (11 ∷ [])) (reduce_answer s w)
unfolding reduce_answer
reduce-gives s w = given-then (word-gives s w) (given-value (reduced_word s w))

abbrev pub Reduces : Setting → ℕ → Result ℕ Refusal → Type 0
Reduces s w r = says r ≡ reduce_answer s w

pub reduce-once : (s : Setting) (w : ℕ) (a b : Result ℕ Refusal) → Reduces s w a → Reduces s w b → a ≡ b
reduce-once s w a b = says-once a b (reduce_answer s w)
