-- The numbers of the replies: 0 stands for no refusal, and for nothing else; and 12 is never given. Each by what the library says of its own checks: the
-- laws NAME-gives there name the numbers that a call can give. Assumes nothing.
--     reply-0, lane-reply-0    the reply of an answer that cannot be refused with 0 has the number 0 exactly where the answer is no refusal
--     wrote-0                  and where checks stand before a value, exactly where they refuse nothing
--     choose-never-0, pack-never-0, unpack-never-0, reduce-never-0, build-never-0, by-table-never-0, product-never-0, sum-never-0, make-never-0,
--     lane-sum-never-0, lane-reduce-never-0
--                              so it is with all answers that the exported functions tell
--     sum-gives                the numbers that sum can give, and no other
--     sax-sum-never-12, sax-lane-sum-never-12, sax-lane-reduce-never-12
--                              12 is not among those of sum, whose record is a fresh one, nor of the lane's, whose record is made there
use Rattle.std.specs.Prelude.{ℕ, ◌<◌, ◌≡◌, refl, false, List, [], ◌∷◌, ◌++◌, ◌↔◌, length, Float}
use Rattle.std.proofs.Common.{sym, ap, ◌∙◌, true≢false, arith, Result, Ok, Err}
use Rattle.polynomials.specs.Indices.{rounded_up}
use Rattle.settings.specs.Answers.{Answer, answered, refused, Verdict, refuses, ◌and_then◌, Given, Never}
use Rattle.settings.specs.AnswerLaws.{given-value, given-check, given-after, given-then, given-never}
use Rattle.settings.specs.SharedAnswers.{short_cause}
use Rattle.settings.specs.Settings.{setting_numbers, setting-gives, places}
use Rattle.settings.specs.Choices.{choose_answer, choose-gives}
use Rattle.doubles.specs.Whole.{double, whole_part}
use Rattle.words.specs.Places.{places_checks, places-gives, reduced_word, reduce_answer, reduce-gives}
use Rattle.packed.specs.Packing.{pack_answer, pack-gives}
use Rattle.packed.specs.Products.{product_checks, product-gives}
use Rattle.packed.specs.Running.{fed_pairs, fresh_sum, record_of}
use Rattle.packed.specs.RunningChecks.{coherent_numbers, coherent-gives}
use Rattle.packed.specs.Joining.{fresh-coherent}
use Rattle.tables.specs.Tables.{build_checks, build-gives, by_table_checks, by-table-gives}
use Rattle.lane.specs.Lanes as in_lanes
use Rattle.lane.specs.Answering.{made_held, held-sum-gives, held-reduce-gives}
use Rattle.settings.specs.declared.setting.Setting.{Setting}
use Rattle.lane.specs.declared.Lane.{Lane}
use Rattle.exports.specs.Replies.{reply_of, lane_reply_of, lane_reply, Tells}
use Rattle.exports.specs.Exports.{whole_sum_checks, GivesSum, by_made, GivesLaneSum, GivesLaneReduced}
use Rattle.exports.specs.declared.replies.Reply.{Reply}
use Rattle.exports.specs.declared.replies.LaneReply.{LaneReply}
use Rattle.settings.specs.Refusals.{number_of, place_told}
use Rattle.settings.specs.declared.refusals.Refusal.{Refusal}

-- ---- replies

abbrev number_in : {A : Type 0} → Answer A → ℕ
number_in (answered v) = 0
number_in (refused number place) = number

number-0 : {A : Type 0} (a : Answer A) → Never 0 a → (number_in a ≡ 0) ↔ (refuses a ≡ false)
number-0 (answered v) h = (λ e. refl, λ e. refl)
number-0 (refused number place) h = (λ e. absurd (h place (ap (λ (n : ℕ). refused n place) e)), λ e. absurd (true≢false e))

number-never : {A : Type 0} (a : Answer A) (n : ℕ) → 0 < n → Never n a → number_in a ≡ n → ⊥
number-never (answered v) n some h e = omega arith
number-never (refused number place) n some h e = h place (ap (λ (m : ℕ). refused m place) e)

reply-number : (a : Answer ℕ) → (reply_of a).number ≡ number_in a
reply-number (answered v) = refl
reply-number (refused number place) = refl

lane-reply-number : (a : Answer Float) → (lane_reply_of a).number ≡ number_in a
lane-reply-number (answered x) = refl
lane-reply-number (refused number place) = refl

pub reply-0 : (a : Answer ℕ) → Never 0 a → ((reply_of a).number ≡ 0) ↔ (refuses a ≡ false)
reply-0 a h = rw (reply-number a) (number-0 a h)

pub lane-reply-0 : (a : Answer Float) → Never 0 a → ((lane_reply_of a).number ≡ 0) ↔ (refuses a ≡ false)
lane-reply-0 a h = rw (lane-reply-number a) (number-0 a h)

pub wrote-0 : (v : Verdict) (m : ℕ) → Never 0 v → ((reply_of (v and_then answered m)).number ≡ 0) ↔ (refuses v ≡ false)
wrote-0 (answered u) m h = (λ e. refl, λ e. refl)
wrote-0 (refused number place) m h = number-0 (refused number place) h

-- ---- 0 is no refusal's

pub choose-never-0 : (p k n : ℕ) → Never 0 (choose_answer p k n)
choose-never-0 p k n = given-never 0 refl (choose-gives p k n)

pub pack-never-0 : (s : Setting) (xs : List ℕ) → Never 0 (pack_answer s xs)
pack-never-0 s xs = given-never 0 refl (pack-gives s xs)

pub unpack-never-0 : (s : Setting) (w len : ℕ) → Never 0 (places_checks s w len)
unpack-never-0 s w len = given-never 0 refl (places-gives s w len)

pub reduce-never-0 : (s : Setting) (w : ℕ) → Never 0 (reduce_answer s w)
reduce-never-0 s w = given-never 0 refl (reduce-gives s w)

pub build-never-0 : (s : Setting) (len : ℕ) → Never 0 (build_checks s len)
build-never-0 s len = given-never 0 refl (build-gives s len)

pub by-table-never-0 : (s : Setting) (buf ws : List ℕ) (len : ℕ) → Never 0 (by_table_checks s buf ws len)
by-table-never-0 s buf ws len = given-never 0 refl (by-table-gives s buf ws len)

pub product-never-0 : (s : Setting) (a b : List ℕ) (len : ℕ) → Never 0 (product_checks s a b len)
product-never-0 s a b len = given-never 0 refl (product-gives s a b len)

pub make-never-0 : (s : Setting) → Never 0 (in_lanes.make_checks s)
make-never-0 s = given-never 0 refl (in_lanes.make-gives s)

pub lane-sum-never-0 : (l : Lane) (xs ys : List ℕ) → Never 0 (in_lanes.lane_sum_checks l xs ys)
lane-sum-never-0 l xs ys = given-never 0 refl (in_lanes.lane-sum-gives l xs ys)

pub lane-reduce-never-0 : (l : Lane) (x : Float) → Never 0 (in_lanes.reduce_checks l x)
lane-reduce-never-0 l x = given-never 0 refl (in_lanes.lane-reduce-gives l x)

-- ---- sum

pub sum-gives : (s : Setting) (xs ys : List ℕ) (len : ℕ) → Given (setting_numbers ++ (coherent_numbers ++ (10 ∷ []))) (whole_sum_checks s xs ys len)
unfolding whole_sum_checks
sum-gives s xs ys len =
    given-after (setting-gives s) (λ ok. given-then (coherent-gives (record_of s fresh_sum) xs ys (fresh-coherent s ok)) (given-check (short_cause (places s) len) 10 0))

pub sum-never-0 : (s : Setting) (xs ys : List ℕ) (len : ℕ) → Never 0 (whole_sum_checks s xs ys len)
sum-never-0 s xs ys len = given-never 0 refl (sum-gives s xs ys len)

pub sax-sum-never-12 : (s : Setting) (xs ys old : List ℕ) (r : Reply) (after : List ℕ) → GivesSum s xs ys old r after → r.number ≡ 12 → ⊥
sax-sum-never-12 s xs ys old r after gives e =
    let m : ℕ = rounded_up (length (fed_pairs s xs ys)) s.n in
    let a : Answer ℕ = whole_sum_checks s xs ys (length old) and_then answered m in
    number-never a 12 (omega arith) (given-never 12 refl (given-then (sum-gives s xs ys (length old)) (given-value m)))
    (sym (reply-number a) ∙ ap (λ (r : Reply). r.number) (sym gives.0) ∙ e)

-- ---- the double lane

-- a promise of the lane, by what it says: some answer that cannot be 12
told-never-12 : (Keeps : Result Float Refusal → Type 0) (r : LaneReply) (a : Answer Float) → Never 12 a → ((x : Result Float Refusal) → Keeps x → lane_reply x ≡ lane_reply_of a) → Tells Keeps lane_reply r → r.number ≡ 12 → ⊥
told-never-12 Keeps r a none told h e = number-never a 12 (omega arith) none (sym (lane-reply-number a) ∙ sym (ap (λ (r : LaneReply). r.number) (h.is ∙ told h.answer h.keeps)) ∙ e)

-- a refusal of make is none of a record
unmade-never-12 : (s : Setting) (m : Result Lane Refusal) (Then : Lane → LaneReply → Type 0) (r : LaneReply) → in_lanes.Makes s m → by_made m Then r → ((l : Lane) → in_lanes.Makes s (Ok l) → Then l r → r.number ≡ 12 → ⊥) → r.number ≡ 12 → ⊥
unmade-never-12 s (Ok l) Then r makes gives rest e = rest l makes gives e
unmade-never-12 s (Err why) Then r makes gives rest e =
    let a : Answer Lane = in_lanes.make_checks s and_then answered (in_lanes.lane_of s) in
    let is : number_of why ≡ 12 = ap (λ (r : LaneReply). r.number) (sym gives) ∙ e in
    given-never 12 refl (given-then (in_lanes.make-gives s) (given-value (in_lanes.lane_of s))) (place_told why) (sym makes ∙ ap (λ (n : ℕ). refused n (place_told why)) is)

pub sax-lane-sum-never-12 : (s : Setting) (xs ys : List ℕ) (r : LaneReply) → GivesLaneSum s xs ys r → r.number ≡ 12 → ⊥
sax-lane-sum-never-12 s xs ys r h =
    unmade-never-12 s h.made (λ l. Tells (in_lanes.LaneSums l xs ys) lane_reply) r h.makes h.gives
    (λ l makes. told-never-12 (in_lanes.LaneSums l xs ys) r _ (given-never 12 refl (given-then (held-sum-gives l xs ys (made_held s l makes)) (given-value (double (in_lanes.sum_word l.setting xs ys))))) (λ a keeps. ap lane_reply_of keeps))

pub sax-lane-reduce-never-12 : (s : Setting) (x : Float) (r : LaneReply) → GivesLaneReduced s x r → r.number ≡ 12 → ⊥
sax-lane-reduce-never-12 s x r h =
    unmade-never-12 s h.made (λ l. Tells (in_lanes.LaneReduces l x) lane_reply) r h.makes h.gives
    (λ l makes. told-never-12 (in_lanes.LaneReduces l x) r _ (given-never 12 refl (given-then (held-reduce-gives l x (made_held s l makes)) (given-value (double (reduced_word l.setting (whole_part x)))))) (λ a keeps. ap lane_reply_of keeps))
