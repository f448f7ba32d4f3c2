-- The state that takes a job's bytes in pieces: start, take, finish. What take and finish do is said for every state; JobLaws shows that from a
-- start the state depends on the joined bytes alone, and that finishing gives the job's line.
--     held_bytes                     32, the most that can be held
--     holding stage bs pairs r      the state at a stage that holds the bytes bs, zeros after them, a number of declared pairs, and a record
--     heading bs                    the header is not complete: its bytes so far; blank, the record there, all zero
--     adding s u pairs bs           pairs are added up: the record, and the bytes of the open pair
--     settled number place          a refusal that no further byte can change; nothing else is held
--     held_in st                     the bytes that a state holds
--     room s u pairs                the bytes of the pairs that are still to come
--     index_check p before cs        8 with the index in the job of the first bad coefficient, where so many stand before these
--     body_checks s u pairs bs       8 in the coefficients of what is still to come, then 17 for extra bytes
--     settling v st                 that state, or the one of the refusal
--     whole_bytes k len              the bytes of the whole pairs among so many
--     sum_after s u bs               the sum after the whole pairs in bytes
--     pairs_after s u pairs bs       whole pairs are added up, and the rest is held
--     header_after bs                as soon as the header is complete its checks are made
--     held_most, unused_cause, nonzero_cause, blank_cause, idle_cause, refusal_cause, heading_cause, adding_cause, settled_cause, cause_at, state_cause
--                                   12 Record: a state that is not coherent
--     taken_at, taken_by st piece     what take makes of a state: one that is not coherent stays as it is
--     adding_line r pairs            17 for an early end, or the sums
--     line_at, line_of st             the line that finish writes: refused 12 0 for a state that is not coherent
--     finish_checks line len         10: a buffer of len bytes is lent for the line
--     finish-gives                  which is the one number that it can give
--     Starts, Takes, Finishes       the promises of start, take, finish; start-once, take-once, finish-once: each allows one result only
use Rattle.std.specs.Prelude.{ℕ, ◌+◌, ◌-◌, ◌*◌, ◌/◌, ◌≡◌, Bool, not, ◌||◌, ◌&&◌, List, [], ◌∷◌, ◌++◌, ltb, leb, eqb, length, take, drop, Result}
use Rattle.std.proofs.Common.{sym, ◌∙◌}
use Rattle.polynomials.specs.Indices.{pick, upto, exceeds, rounded_up}
use Rattle.polynomials.specs.Lists.{coefficient}
use Rattle.settings.specs.Limits.{most_pairs, most_coefficients}
use Rattle.settings.specs.Answers.{answered, refused, Verdict, refuse, ◌and_then◌, Given}
use Rattle.settings.specs.AnswerLaws.{given-check}
use Rattle.settings.specs.SharedAnswers.{short_cause, Writes, writes-once}
use Rattle.settings.specs.Settings.{places, outside}
use Rattle.settings.specs.Coefficients.{first_bad}
use Rattle.packed.specs.Taken.{taken}
use Rattle.packed.specs.Running.{record_cause, closing_at, after_pairs, fresh_sum, record_of}
use Rattle.settings.specs.declared.refusals.Refusal.{Refusal}
use Rattle.settings.specs.declared.refusals.Numbered.{Numbered}
use Rattle.settings.specs.declared.setting.Setting.{Setting}
use Rattle.packed.specs.declared.running.Sum.{Sum}
use Rattle.packed.specs.declared.running.Record.{Record}
use Rattle.jobs.specs.Lines.{sums_line, refused_line}
use Rattle.jobs.specs.Jobs.{header_bytes, setting_in, pair_bytes, declared_pairs, coefficients_in, pairs_in, header_checks}
use Rattle.jobs.specs.declared.state.State.{State}
use Rattle.jobs.specs.declared.state.Stage.{Stage}
use Rattle.jobs.specs.declared.state.Stage.TheVariants as in_stage

-- ---- states

-- room for a header or for an open pair
abbrev pub held_bytes : ℕ
held_bytes = 32

abbrev pub holding : Stage → List ℕ → ℕ → Record → State
holding stage bs pairs r = record { stage = stage; held = upto held_bytes (coefficient bs); size = length bs; pairs = pairs; running = r }

abbrev pub blank : Record
blank = record_of (record { p = 0; k = 0; t = 0; n = 0 }) fresh_sum

abbrev pub heading : List ℕ → State
heading bs = holding in_stage.Header bs 0 blank

abbrev pub adding : Setting → Sum → ℕ → List ℕ → State
adding s u pairs bs = holding in_stage.Pairs bs pairs (record_of s u)

abbrev pub settled : ℕ → ℕ → State
settled number place = holding (in_stage.Refused (record { number = number; place = place })) [] 0 blank

abbrev pub settling : Verdict → State → State
settling (answered x) st = st
settling (refused number place) st = settled number place

abbrev pub held_in : State → List ℕ
held_in st = take st.size st.held

-- ---- bytes

abbrev pub room : Setting → Sum → ℕ → ℕ
room s u pairs = pair_bytes s.k * (pairs - u.total)

abbrev pub index_check : ℕ → ℕ → List ℕ → Verdict
index_check p before cs = refuse (ltb (first_bad p cs) (length cs)) 8 (before + first_bad p cs)

unfoldable pub body_checks : Setting → Sum → ℕ → List ℕ → Verdict
body_checks s u pairs bs =
    index_check s.p (2 * s.k * u.total) (coefficients_in (take (room s u pairs) bs))
    and_then refuse (ltb (room s u pairs) (length bs)) 17 0

abbrev pub whole_bytes : ℕ → ℕ → ℕ
whole_bytes k len = len / pair_bytes k * pair_bytes k

unfoldable pub sum_after : Setting → Sum → List ℕ → Sum
sum_after s u bs = after_pairs s u (pairs_in s.k (taken s.p (coefficients_in bs)))

unfoldable pub pairs_after : Setting → Sum → ℕ → List ℕ → State
pairs_after s u pairs bs = settling (body_checks s u pairs bs) (adding s (sum_after s u bs) pairs (drop (whole_bytes s.k (length bs)) bs))

unfoldable pub header_after : List ℕ → State
header_after bs =
    pick (ltb (length bs) header_bytes)
    (heading bs)
    (settling (header_checks bs) (pairs_after (setting_in bs) fresh_sum (declared_pairs bs) (drop header_bytes bs)))

-- ---- 12

-- a byte of the held ones is any, and after them there are zeros
abbrev pub held_most : ℕ → ℕ → ℕ
held_most size j = pick (ltb j size) 255 0

abbrev pub unused_cause : ℕ → List ℕ → Bool
unused_cause size held = exceeds (length held) (coefficient held) (held_most size)

abbrev pub nonzero_cause : List ℕ → Bool
nonzero_cause rs = exceeds (length rs) (coefficient rs) (λ j. 0)

abbrev pub blank_cause : Record → Bool
blank_cause r =
    not (eqb r.setting.p 0)
    || (not (eqb r.setting.k 0)
    || (not (eqb r.setting.t 0)
    || (not (eqb r.setting.n 0)
    || (not (eqb r.sum.total 0)
    || (not (eqb r.sum.word 0)
    || nonzero_cause r.sum.residues)))))

-- a record or declared pairs where there are none yet, or none any more
abbrev pub idle_cause : State → Bool
idle_cause st = not (eqb st.pairs 0) || blank_cause st.running

abbrev pub heading_cause : State → Bool
heading_cause st = leb header_bytes st.size || (unused_cause st.size st.held || idle_cause st)

-- one that no bytes give
abbrev pub refusal_cause : Numbered → Bool
refusal_cause r =
    pick (eqb r.number 8)
    (leb (2 * most_coefficients * most_pairs) r.place)
    (not (eqb r.place 0) || (not (eqb r.number 13) && (not (eqb r.number 17) && outside 1 6 r.number)))

abbrev pub settled_cause : Numbered → State → Bool
settled_cause r st = refusal_cause r || (not (eqb st.size 0) || (unused_cause st.size st.held || idle_cause st))

abbrev pub adding_cause : State → Bool
adding_cause st =
    record_cause st.running
    || (ltb most_pairs st.pairs
    || (ltb st.pairs st.running.sum.total
    || (leb (pair_bytes st.running.setting.k) st.size
    || (ltb (room st.running.setting st.running.sum st.pairs) st.size
    || (ltb (first_bad st.running.setting.p (coefficients_in (held_in st))) (length (coefficients_in (held_in st)))
    || unused_cause st.size st.held)))))

abbrev pub cause_at : Stage → State → Bool
cause_at in_stage.Header st = heading_cause st
cause_at in_stage.Pairs st = adding_cause st
cause_at (in_stage.Refused r) st = settled_cause r st

unfoldable pub state_cause : State → Bool
state_cause st = cause_at st.stage st

-- ---- take and finish

abbrev pub taken_at : Stage → State → List ℕ → State
taken_at in_stage.Header st piece = header_after (held_in st ++ piece)
taken_at in_stage.Pairs st piece = pairs_after st.running.setting st.running.sum st.pairs (held_in st ++ piece)
taken_at (in_stage.Refused r) st piece = st

unfoldable pub taken_by : State → List ℕ → State
taken_by st piece = pick (state_cause st) st (taken_at st.stage st piece)

-- where pairs are added up: an early end, or the sums
abbrev pub adding_line : Record → ℕ → List ℕ
adding_line r pairs =
    let s : Setting = r.setting in
    pick (ltb r.sum.total pairs)
    (refused_line 17 0)
    (sums_line s pairs (rounded_up r.sum.total s.n) (upto (places s) (closing_at s r.sum)))

abbrev pub line_at : Stage → State → List ℕ
line_at in_stage.Header st = refused_line 17 0
line_at in_stage.Pairs st = adding_line st.running st.pairs
line_at (in_stage.Refused r) st = refused_line r.number r.place

unfoldable pub line_of : State → List ℕ
line_of st = pick (state_cause st) (refused_line 12 0) (line_at st.stage st)

-- ---- promises

abbrev pub Starts : State → Type 0
Starts r = r ≡ heading []

pub start-once : (a b : State) → Starts a → Starts b → a ≡ b
start-once a b ha hb = ha ∙ sym hb

abbrev pub Takes : State → List ℕ → State → Type 0
Takes st piece r = r ≡ taken_by st piece

pub take-once : (st : State) (piece : List ℕ) (a b : State) → Takes st piece a → Takes st piece b → a ≡ b
take-once st piece a b ha hb = ha ∙ sym hb

abbrev pub finish_checks : List ℕ → ℕ → Verdict
finish_checks line len = refuse (short_cause (length line) len) 10 0

pub finish-gives : (line : List ℕ) (len : ℕ) → Given (10 ∷ []) (finish_checks line len)
finish-gives line len = given-check (short_cause (length line) len) 10 0

abbrev pub Finishes : State → List ℕ → Result ℕ Refusal → List ℕ → Type 0
Finishes st old r after = Writes (finish_checks (line_of st) (length old)) (line_of st) old r after

pub finish-once : (st : State) (old : List ℕ) (a b : Result ℕ Refusal) (x y : List ℕ) → Finishes st old a x → Finishes st old b y → (a ≡ b) × (x ≡ y)
finish-once st old a b x y = writes-once (finish_checks (line_of st) (length old)) (line_of st) old a b x y
