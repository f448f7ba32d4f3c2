-- "The correction table": its bytes, and the calls that build it, reduce by it and pick it, each with its checks in order.
--     no_table_cause p             14 No table: p > 127
--     entries p t                p^2 entries of one byte: entry u + p v is (u - q v) mod p
--     table p t                  the bytes: a 4-byte length counting all bytes after it, one version byte 1, p in two bytes, t in one, then the
--                                entries. Numbers are big-endian
--     table_size p                8 + p^2 bytes in all
--     fits s buf                 a buffer fits if it starts with exactly these bytes; later bytes are not looked at
--     stale_check s buf           15 Stale: it does not fit. The place is the first differing byte, or the buffer's length if it ends first
--     table_checks s              the setting's checks, then 14
--     build_checks s len          these, then 10: a buffer of len bytes is lent
--     Builds s old r after       the promise of build
--     by_table_checks s buf ws len the setting's checks, 14, 15, 10, 11: a list of len words is lent
--     reduced_words s ws          one reduced word for each word: what reduce answers for it
--     ReducesByTable s buf ws old r after
--                                the promise of reduce by table
--     table-gives, build-gives, by-table-gives
--                                the numbers that each of these lists of checks can give, and no other
--     first_that_fits v a b x y none
--                                x where the first of two buffers fits, y where only the second does, none where neither does or a check refuses
--     Picks s a b r              the promise of pick, for two buffers and the part handed back: what it holds and where it lies
--     build-once, reduce-by-table-once, pick-once
--                                each promise allows one answer and one buffer only; pick's, one content at one place
use Rattle.std.specs.Prelude.{ℕ, ◌+◌, ◌*◌, ◌^◌, ◌≡◌, Bool, true, false, not, List, [], ◌∷◌, ◌++◌, ltb, length, Result}
use Rattle.std.proofs.Common.{sym, ◌∙◌}
use Rattle.std.specs.Borrow.{Bor}
use Rattle.polynomials.specs.Indices.{upto, some}
use Rattle.polynomials.specs.Lists.{coefficient}
use Rattle.polynomials.specs.Places.{entry}
use Rattle.layout.specs.Numbers.{big_endian}
use Rattle.layout.specs.Beginnings.{starts_with, first_difference}
use Rattle.settings.specs.Limits.{largest_table_modulus}
use Rattle.settings.specs.Answers.{answered, refused, Verdict, refuse, ◌and_then◌, Given}
use Rattle.settings.specs.AnswerLaws.{given-check, given-then}
use Rattle.settings.specs.SharedAnswers.{short_cause, Writes, writes-once}
use Rattle.settings.specs.Settings.{setting_checks, setting_numbers, setting-gives}
use Rattle.words.specs.Places.{bad_word, first_bad_word, words_check, reduced_word}
use Rattle.settings.specs.declared.setting.Setting.{Setting}
use Rattle.settings.specs.declared.refusals.Refusal.{Refusal}

-- ---- the bytes

abbrev pub entries : ℕ → ℕ → List ℕ
entries p t = upto (p * p) (entry p (2 ^ t))

abbrev pub table_version : ℕ
table_version = 1

-- all bytes after the length
abbrev pub table_body : ℕ → ℕ → List ℕ
table_body p t = table_version ∷ (big_endian 2 p ++ (big_endian 1 t ++ entries p t))

unfoldable pub table : ℕ → ℕ → List ℕ
table p t = big_endian 4 (length (table_body p t)) ++ table_body p t

abbrev pub header_size : ℕ
header_size = 8

abbrev pub table_size : ℕ → ℕ
table_size p = header_size + p * p

-- ---- the causes

abbrev pub no_table_cause : ℕ → Bool
no_table_cause p = ltb largest_table_modulus p

abbrev pub fits : Setting → List ℕ → Bool
fits s buf = starts_with buf (table s.p s.t)

abbrev pub stale_check : Setting → List ℕ → Verdict
stale_check s buf = refuse (not (fits s buf)) 15 (first_difference buf (table s.p s.t))

unfoldable pub table_checks : Setting → Verdict
table_checks s = setting_checks s and_then refuse (no_table_cause s.p) 14 0

pub table-gives : (s : Setting) → Given (setting_numbers ++ (14 ∷ [])) (table_checks s)
unfolding table_checks
table-gives s = given-then (setting-gives s) (given-check (no_table_cause s.p) 14 0)

-- ---- build

unfoldable pub build_checks : Setting → ℕ → Verdict
build_checks s len = table_checks s and_then refuse (short_cause (table_size s.p) len) 10 0

pub build-gives : (s : Setting) (len : ℕ) → Given (setting_numbers ++ (14 ∷ 10 ∷ [])) (build_checks s len)
unfolding build_checks
build-gives s len = given-then (table-gives s) (given-check (short_cause (table_size s.p) len) 10 0)

abbrev pub Builds : Setting → List ℕ → Result ℕ Refusal → List ℕ → Type 0
Builds s old r after = Writes (build_checks s (length old)) (table s.p s.t) old r after

pub build-once : (s : Setting) (old : List ℕ) (a b : Result ℕ Refusal) (x y : List ℕ) → Builds s old a x → Builds s old b y → (a ≡ b) × (x ≡ y)
build-once s old = writes-once (build_checks s (length old)) (table s.p s.t) old

-- ---- reduce by table

unfoldable pub by_table_checks : Setting → List ℕ → List ℕ → ℕ → Verdict
by_table_checks s buf ws len =
    table_checks s
    and_then stale_check s buf
    and_then refuse (short_cause (length ws) len) 10 0
    and_then words_check s ws

pub by-table-gives : (s : Setting) (buf ws : List ℕ) (len : ℕ) → Given (setting_numbers ++ (14 ∷ 15 ∷ 10 ∷ 11 ∷ [])) (by_table_checks s buf ws len)
unfolding by_table_checks
by-table-gives s buf ws len =
    given-then (table-gives s)
    (given-then (given-check (not (fits s buf)) 15 (first_difference buf (table s.p s.t)))
    (given-then (given-check (short_cause (length ws) len) 10 0) (given-check (some (bad_word s ws) (length ws)) 11 (first_bad_word s ws))))

abbrev pub reduced_word_at : Setting → List ℕ → ℕ → ℕ
reduced_word_at s ws i = reduced_word s (coefficient ws i)

abbrev pub reduced_words : Setting → List ℕ → List ℕ
reduced_words s ws = upto (length ws) (reduced_word_at s ws)

abbrev pub ReducesByTable : Setting → List ℕ → List ℕ → List ℕ → Result ℕ Refusal → List ℕ → Type 0
ReducesByTable s buf ws old r after = Writes (by_table_checks s buf ws (length old)) (reduced_words s ws) old r after

pub reduce-by-table-once : (s : Setting) (buf ws old : List ℕ) (a b : Result ℕ Refusal) (x y : List ℕ) → ReducesByTable s buf ws old a x → ReducesByTable s buf ws old b y
    → (a ≡ b) × (x ≡ y)
reduce-by-table-once s buf ws old = writes-once (by_table_checks s buf ws (length old)) (reduced_words s ws) old

-- ---- pick

abbrev pub first_that_fits : {A : Type 0} → Verdict → Bool → Bool → A → A → A → A
first_that_fits (refused number place) a b x y none = none
first_that_fits (answered u) true b x y none = x
first_that_fits (answered u) false true x y none = y
first_that_fits (answered u) false false x y none = none

-- where a buffer's entries lie: in the buffer's block of memory, past the header
abbrev pub entries_place : Bor (List ℕ) → ℕ × ℕ
entries_place buf = (buf.ref_ptr.0, header_size + buf.ref_ptr.1)

abbrev pub picked : {A : Type 0} → Setting → Bor (List ℕ) → Bor (List ℕ) → A → A → A → A
picked s a b = first_that_fits (table_checks s) (fits s a.now) (fits s b.now)

abbrev pub Picks : Setting → Bor (List ℕ) → Bor (List ℕ) → Bor (List ℕ) → Type 0
Picks s a b r =
    (r.now ≡ picked s a b (entries s.p s.t) (entries s.p s.t) [])
    × (r.ref_ptr ≡ picked s a b (entries_place a) (entries_place b) a.ref_ptr)

pub pick-once : (s : Setting) (a b x y : Bor (List ℕ)) → Picks s a b x → Picks s a b y → (x.now ≡ y.now) × (x.ref_ptr ≡ y.ref_ptr)
pick-once s a b x y hx hy = (hx.0 ∙ sym hy.0, hx.1 ∙ sym hy.1)
