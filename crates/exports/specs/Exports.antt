-- The promises of the exported functions. Each is the promise of the library's call, told in numbers; sum's is that of fresh, one feed of all pairs and
-- close, and the lane's are those of make and then of sum or reduce.
--     GivesWidth p k n r                       choose
--     GivesWord s xs r                         pack
--     GivesFields s w old r after              unpack
--     GivesReduced s w r                       reduce
--     GivesTable s old r after                 build a table
--     GivesReducedWords s buf ws old r after   reduce by table
--     GivesProduct s a b old r after           product
--     whole_sum_checks s xs ys len               the setting's checks; those of feed, of all pairs to a fresh record; then 10: a list of len elements is lent
--     GivesSum s xs ys old r after             the schoolbook sum of all pairs modulo p, and pairs / n, rounded up
--     InLane s Then r                          in the lane of the setting: what make refuses, and else what Then says of the record made
--     GivesLaneSum s xs ys r                   lane sum
--     GivesLaneReduced s x r                   lane reduction
--     sax-choose-once, .., sax-lane-reduce-once
--                                              one law a function: its promise allows one reply, and one list, only
use Rattle.std.specs.Prelude.{ℕ, ◌≡◌, List, length, Float}
use Rattle.std.proofs.Common.{sym, ◌∙◌, Result, Ok, Err}
use Rattle.polynomials.specs.Indices.{rounded_up}
use Rattle.settings.specs.Answers.{answered, refused, Verdict, refuse, ◌and_then◌, left_by}
use Rattle.settings.specs.SharedAnswers.{short_cause}
use Rattle.settings.specs.Settings.{setting_checks, places}
use Rattle.settings.specs.Choices.{Chooses, choose-once}
use Rattle.words.specs.Places.{Unpacks, unpack-once, Reduces, reduce-once}
use Rattle.packed.specs.Packing.{Packs, pack-once}
use Rattle.tables.specs.Tables.{Builds, build-once, ReducesByTable, reduce-by-table-once}
use Rattle.packed.specs.Products.{Multiplies, product-once}
use Rattle.packed.specs.Running.{fed_pairs, feed_checks, fresh_sum, record_of}
use Rattle.packed.specs.Calls.{schoolbook}
use Rattle.lane.specs.Lanes as in_lanes
use Rattle.settings.specs.declared.setting.Setting.{Setting}
use Rattle.lane.specs.declared.Lane.{Lane}
use Rattle.exports.specs.Replies.{reply_of, lane_reply_of, result_reply, lane_reply, Tells, tells-once, tells-written-once}
use Rattle.exports.specs.declared.replies.Reply.{Reply}
use Rattle.exports.specs.declared.replies.LaneReply.{LaneReply}
use Rattle.settings.specs.Refusals.{number_of, place_told, says}
use Rattle.settings.specs.declared.refusals.Refusal.{Refusal}

-- ---- numbers and words

abbrev pub GivesWidth : ℕ → ℕ → ℕ → Reply → Type 0
GivesWidth p k n r = Tells (Chooses p k n) result_reply r

pub sax-choose-once : (p k n : ℕ) (r u : Reply) → GivesWidth p k n r → GivesWidth p k n u → r ≡ u
sax-choose-once p k n = tells-once (Chooses p k n) result_reply (choose-once p k n)

abbrev pub GivesWord : Setting → List ℕ → Reply → Type 0
GivesWord s xs r = Tells (Packs s xs) result_reply r

pub sax-pack-once : (s : Setting) (xs : List ℕ) (r u : Reply) → GivesWord s xs r → GivesWord s xs u → r ≡ u
sax-pack-once s xs = tells-once (Packs s xs) result_reply (pack-once s xs)

abbrev pub GivesReduced : Setting → ℕ → Reply → Type 0
GivesReduced s w r = Tells (Reduces s w) result_reply r

pub sax-reduce-once : (s : Setting) (w : ℕ) (r u : Reply) → GivesReduced s w r → GivesReduced s w u → r ≡ u
sax-reduce-once s w = tells-once (Reduces s w) result_reply (reduce-once s w)

-- ---- lists

abbrev pub GivesFields : Setting → ℕ → List ℕ → Reply → List ℕ → Type 0
GivesFields s w old r after = Tells (λ a. Unpacks s w old a after) result_reply r

pub sax-unpack-once : (s : Setting) (w : ℕ) (old : List ℕ) (r u : Reply) (x y : List ℕ) → GivesFields s w old r x → GivesFields s w old u y → (r ≡ u) × (x ≡ y)
sax-unpack-once s w old = tells-written-once (Unpacks s w old) result_reply (unpack-once s w old)

abbrev pub GivesTable : Setting → List ℕ → Reply → List ℕ → Type 0
GivesTable s old r after = Tells (λ a. Builds s old a after) result_reply r

pub sax-build-table-once : (s : Setting) (old : List ℕ) (r u : Reply) (x y : List ℕ) → GivesTable s old r x → GivesTable s old u y → (r ≡ u) × (x ≡ y)
sax-build-table-once s old = tells-written-once (Builds s old) result_reply (build-once s old)

abbrev pub GivesReducedWords : Setting → List ℕ → List ℕ → List ℕ → Reply → List ℕ → Type 0
GivesReducedWords s buf ws old r after = Tells (λ a. ReducesByTable s buf ws old a after) result_reply r

pub sax-reduce-by-table-once : (s : Setting) (buf ws old : List ℕ) (r u : Reply) (x y : List ℕ) → GivesReducedWords s buf ws old r x → GivesReducedWords s buf ws old u y
    → (r ≡ u) × (x ≡ y)
sax-reduce-by-table-once s buf ws old = tells-written-once (ReducesByTable s buf ws old) result_reply (reduce-by-table-once s buf ws old)

abbrev pub GivesProduct : Setting → List ℕ → List ℕ → List ℕ → Reply → List ℕ → Type 0
GivesProduct s a b old r after = Tells (λ w. Multiplies s a b old w after) result_reply r

pub sax-product-once : (s : Setting) (a b old : List ℕ) (r u : Reply) (x y : List ℕ) → GivesProduct s a b old r x → GivesProduct s a b old u y → (r ≡ u) × (x ≡ y)
sax-product-once s a b old = tells-written-once (Multiplies s a b old) result_reply (product-once s a b old)

-- ---- sum

unfoldable pub whole_sum_checks : Setting → List ℕ → List ℕ → ℕ → Verdict
whole_sum_checks s xs ys len =
    setting_checks s
    and_then feed_checks (record_of s fresh_sum) xs ys
    and_then refuse (short_cause (places s) len) 10 0

-- the same as a result
abbrev pub SumsTo : Setting → List ℕ → List ℕ → List ℕ → Result ℕ Refusal → List ℕ → Type 0
SumsTo s xs ys old a after =
    (says a ≡ (whole_sum_checks s xs ys (length old) and_then answered (rounded_up (length (fed_pairs s xs ys)) s.n)))
    × (after ≡ left_by (whole_sum_checks s xs ys (length old)) (schoolbook s (fed_pairs s xs ys)) old)

abbrev pub GivesSum : Setting → List ℕ → List ℕ → List ℕ → Reply → List ℕ → Type 0
GivesSum s xs ys old r after =
    (r ≡ reply_of (whole_sum_checks s xs ys (length old) and_then answered (rounded_up (length (fed_pairs s xs ys)) s.n)))
    × (after ≡ left_by (whole_sum_checks s xs ys (length old)) (schoolbook s (fed_pairs s xs ys)) old)

pub sax-sum-once : (s : Setting) (xs ys old : List ℕ) (r u : Reply) (x y : List ℕ) → GivesSum s xs ys old r x → GivesSum s xs ys old u y → (r ≡ u) × (x ≡ y)
sax-sum-once s xs ys old r u x y hr hu = (hr.0 ∙ sym hu.0, hr.1 ∙ sym hu.1)

-- ---- the double lane

abbrev pub by_made : Result Lane Refusal → (Lane → LaneReply → Type 0) → LaneReply → Type 0
by_made (Ok l) Then r = Then l r
by_made (Err why) Then r = r ≡ lane_reply_of (refused (number_of why) (place_told why))

pub record InLane (s : Setting) (Then : Lane → LaneReply → Type 0) (r : LaneReply) : Type 0 where
  pub made : Result Lane Refusal
  pub makes : in_lanes.Makes s made
  pub gives : by_made made Then r

in-lane-once : (s : Setting) (Then : Lane → LaneReply → Type 0) → ((l : Lane) (r u : LaneReply) → Then l r → Then l u → r ≡ u) → (r u : LaneReply) → InLane s Then r → InLane s Then u → r ≡ u
in-lane-once s Then one r u hr hu = go hr.made hr.gives (rw (in_lanes.make-once s hu.made hr.made hu.makes hr.makes) at hu.gives)
  where
    go : (m : Result Lane Refusal) → by_made m Then r → by_made m Then u → r ≡ u
    go (Ok l) x y = one l r u x y
    go (Err why) x y = x ∙ sym y

abbrev pub GivesLaneSum : Setting → List ℕ → List ℕ → LaneReply → Type 0
GivesLaneSum s xs ys r = InLane s (λ l. Tells (in_lanes.LaneSums l xs ys) lane_reply) r

pub sax-lane-sum-once : (s : Setting) (xs ys : List ℕ) (r u : LaneReply) → GivesLaneSum s xs ys r → GivesLaneSum s xs ys u → r ≡ u
sax-lane-sum-once s xs ys = in-lane-once s (λ l. Tells (in_lanes.LaneSums l xs ys) lane_reply) (λ l. tells-once (in_lanes.LaneSums l xs ys) lane_reply (in_lanes.sum-once l xs ys))

abbrev pub GivesLaneReduced : Setting → Float → LaneReply → Type 0
GivesLaneReduced s x r = InLane s (λ l. Tells (in_lanes.LaneReduces l x) lane_reply) r

pub sax-lane-reduce-once : (s : Setting) (x : Float) (r u : LaneReply) → GivesLaneReduced s x r → GivesLaneReduced s x u → r ≡ u
sax-lane-reduce-once s x = in-lane-once s (λ l. Tells (in_lanes.LaneReduces l x) lane_reply) (λ l. tells-once (in_lanes.LaneReduces l x) lane_reply (in_lanes.reduce-once l x))
