-- Answers in numbers. An exported function gives a number, a place and a value; a call of the library answers a value, or refuses with number and place.
--     reply_of a                 the reply that an answer a is: number 0, place 0 and the value; or the refusal's number and place, and the value 0
--     lane_reply_of a             the same, where the value is a double
--     reply-value, lane-reply-value
--                               of a value the reply has 0, 0 and that value
--     reply-refused, lane-reply-refused
--                               of a refusal it has the number, the place, and 0
--     result_reply, lane_reply  the reply that a result of the library is
--     Tells Keeps reply r       r is the reply of an answer that keeps the promise Keeps
--     tells-once                it allows one reply only, where the promise allows one answer only
--     tells-written-once        and one list, where the promise is of an answer and a list
use Rattle.std.specs.Prelude.{ℕ, ◌≡◌, refl, List, Float}
use Rattle.std.proofs.Common.{sym, ap, ◌∙◌, Result}
use Rattle.doubles.specs.Whole.{double}
use Rattle.settings.specs.Answers.{Answer, answered, refused}
use Rattle.exports.specs.declared.replies.Reply.{Reply}
use Rattle.exports.specs.declared.replies.LaneReply.{LaneReply}
use Rattle.settings.specs.Refusals.{says}
use Rattle.settings.specs.declared.refusals.Refusal.{Refusal}

abbrev pub reply_of : Answer ℕ → Reply
reply_of (answered v) = record { number = 0; place = 0; value = v }
reply_of (refused number place) = record { number = number; place = place; value = 0 }

abbrev pub lane_reply_of : Answer Float → LaneReply
lane_reply_of (answered x) = record { number = 0; place = 0; value = x }
lane_reply_of (refused number place) = record { number = number; place = place; value = double 0 }

pub reply-value : (v : ℕ) → ((reply_of (answered v)).number ≡ 0) × ((reply_of (answered v)).place ≡ 0) × ((reply_of (answered v)).value ≡ v)
reply-value v = (refl, refl, refl)

pub reply-refused : (number place : ℕ) → ((reply_of (refused number place)).number ≡ number) × ((reply_of (refused number place)).place ≡ place) × ((reply_of (refused number place)).value ≡ 0)
reply-refused number place = (refl, refl, refl)

pub lane-reply-value : (x : Float) → ((lane_reply_of (answered x)).number ≡ 0) × ((lane_reply_of (answered x)).place ≡ 0) × ((lane_reply_of (answered x)).value ≡ x)
lane-reply-value x = (refl, refl, refl)

pub lane-reply-refused : (number place : ℕ) → ((lane_reply_of (refused number place)).number ≡ number) × ((lane_reply_of (refused number place)).place ≡ place) × ((lane_reply_of (refused number place)).value ≡ double 0)
lane-reply-refused number place = (refl, refl, refl)

abbrev pub result_reply : Result ℕ Refusal → Reply
result_reply a = reply_of (says a)

abbrev pub lane_reply : Result Float Refusal → LaneReply
lane_reply a = lane_reply_of (says a)

pub record Tells {A R : Type 0} (Keeps : A → Type 0) (reply : A → R) (r : R) : Type 0 where
  pub answer : A
  pub keeps : Keeps answer
  pub is : r ≡ reply answer

pub tells-once : {A R : Type 0} (Keeps : A → Type 0) (reply : A → R) → ((a b : A) → Keeps a → Keeps b → a ≡ b) → (r u : R) → Tells Keeps reply r → Tells Keeps reply u → r ≡ u
tells-once Keeps reply one r u hr hu = hr.is ∙ ap reply (one hr.answer hu.answer hr.keeps hu.keeps) ∙ sym hu.is

pub tells-written-once : {A R : Type 0} (Keeps : A → List ℕ → Type 0) (reply : A → R) → ((a b : A) (x y : List ℕ) → Keeps a x → Keeps b y → (a ≡ b) × (x ≡ y))
    → (r u : R) (x y : List ℕ) → Tells (λ a. Keeps a x) reply r → Tells (λ a. Keeps a y) reply u → (r ≡ u) × (x ≡ y)
tells-written-once Keeps reply one r u x y hr hu =
    let same = one hr.answer hu.answer x y hr.keeps hu.keeps in
    (hr.is ∙ ap reply same.0 ∙ sym hu.is, same.1)
