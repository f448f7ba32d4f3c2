-- What a call answers, the order of its checks, and what it leaves in a list that it was lent. Definitions only.
--     Answer A            a value of A, or a refusal: its number and a place
--     Verdict, fine       an answer with nothing to say but that no check refused
--     refuse cause n i    refused with number n and place i, where the cause holds
--     v and_then a         checks in order: what v refuses, and else a
--     refuses a           whether an answer is a refusal
--     wrote v new         a call that only writes answers how many elements it wrote
--     left_by v new old    the lent list afterwards: old contents on a refusal, else the new elements and those after them as they were
--     is_in n ns           n is one of the numbers ns
--     Given ns a          where the answer a is a refusal, its number is one of ns
--     Never n a           the answer a is no refusal with the number n
--     numbers             an answer in numbers: the refusal's number (0 for none), its place, and the value's own
-- The place is the first bad index for 8 and 11 in a list and for 15, otherwise 0. A refusal added later takes the next free number,
-- and place 0 unless it names one.
use Rattle.std.specs.Prelude.{ℕ, ◌≡◌, Bool, true, false, ◌||◌, List, [], ◌∷◌, ◌++◌, eqb, length, drop}

infixr 20 ◌and_then◌
pub data Answer (A : Type 0) : Type 0 where
  answered : A → Answer A
  refused : ℕ → ℕ → Answer A

abbrev pub Verdict : Type 0
Verdict = Answer (Unit {0})

abbrev pub fine : Verdict
fine = answered tt

abbrev pub refuse : Bool → ℕ → ℕ → Verdict
refuse true number place = refused number place
refuse false number place = fine

abbrev pub ◌and_then◌ : {A : Type 0} → Verdict → Answer A → Answer A
◌and_then◌ (answered u) a = a
◌and_then◌ (refused number place) a = refused number place

abbrev pub refuses : {A : Type 0} → Answer A → Bool
refuses (answered v) = false
refuses (refused number place) = true

abbrev pub wrote : {A : Type 0} → Verdict → List A → Answer ℕ
wrote v new = v and_then answered (length new)

abbrev pub left_by : {A : Type 0} → Verdict → List A → List A → List A
left_by (answered u) new old = new ++ drop (length new) old
left_by (refused number place) new old = old

abbrev pub is_in : ℕ → List ℕ → Bool
is_in n [] = false
is_in n (m ∷ ms) = eqb n m || is_in n ms

pub record Given {A : Type 0} (ns : List ℕ) (a : Answer A) : Type 0 where
  pub each : (number place : ℕ) → a ≡ refused number place → is_in number ns ≡ true

abbrev pub Never : {A : Type 0} → ℕ → Answer A → Type 0
Never n a = (place : ℕ) → a ≡ refused n place → ⊥

abbrev pub numbers : {A : Type 0} → (A → List ℕ) → Answer A → List ℕ
numbers values (answered v) = 0 ∷ 0 ∷ values v
numbers values (refused number place) = number ∷ place ∷ []
