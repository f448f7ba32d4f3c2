-- Checks in order: what an answer tells of them. Assumes nothing.
--     never                   a refusal is no value
--     passed, passed-last     a value was answered, so this cause did not hold
--     passed_first            a value was answered, so the checks before it refused nothing
--     passed_over             another number was given, so this cause did not hold
--     refuses-none            no refusal is one that passed
--     refuse-first            a search's first find is refused with its place, exactly
--     given-value, given-check, given-then
--                             the numbers that a value, a check, and checks before others can give; given-after, where these are asked only past them
--     given-never             a number that is none of them is never given
--     once                    an answer is fixed by its numbers: two that say the same are equal
--     left-length             a lent list keeps its length
--     wrote-left              it starts with the elements that the answer counts
use Rattle.std.specs.Prelude.{ℕ, ◌≤◌, ◌<◌, ◌≡◌, refl, Bool, true, false, ◌||◌, List, [], ◌∷◌, ◌++◌, ◌↔◌, eqb, length, take, drop}
use Rattle.std.proofs.Common.{sym, ap, ◌∙◌, true≢false, arith, length-append, length-drop, eq-eqb, lt-ltb, ltb-true}
use Rattle.std.proofs.Math.Bool.{or-true}
use Rattle.std.proofs.Math.Seq.{take-append_seam}
use Rattle.polynomials.specs.Indices.{first, some, First}
use Rattle.polynomials.specs.IndexLaws.{first-is, first-only}
use Rattle.settings.specs.Answers.{Answer, answered, refused, Verdict, fine, refuse, refuses, ◌and_then◌, wrote, left_by, is_in, Given, Never}

pub never : {A : Type 0} (number place : ℕ) (v : A) → refused number place ≡ answered v → ⊥
never number place v e = let z : ◌≡◌ {A = ℕ} 0 1 = cc in omega arith

pub passed : {A : Type 0} (cause : Bool) (number place : ℕ) (a : Answer A) (v : A) → (refuse cause number place and_then a) ≡ answered v
    → (cause ≡ false) × (a ≡ answered v)
passed true number place a v e = absurd (never number place v e)
passed false number place a v e = (refl, e)

pub passed-last : (cause : Bool) (number place : ℕ) → refuse cause number place ≡ fine → cause ≡ false
passed-last true number place e = absurd (never number place tt e)
passed-last false number place e = refl

pub passed_first : {A : Type 0} (checks : Verdict) (a : Answer A) (v : A) → (checks and_then a) ≡ answered v → (checks ≡ fine) × (a ≡ answered v)
passed_first (answered u) a v e = (refl, e)
passed_first (refused number place) a v e = absurd (never number place v e)

pub passed_over : {A : Type 0} (cause : Bool) (number place : ℕ) (a : Answer A) (n i : ℕ) → (number ≡ n → ⊥) → (refuse cause number place and_then a) ≡ refused n i
    → (cause ≡ false) × (a ≡ refused n i)
passed_over true number place a n i other e = absurd (other (cc))
passed_over false number place a n i other e = (refl, e)

pub refuses-none : (v : Verdict) → (refuses v ≡ false) ↔ (v ≡ fine)
refuses-none (answered u) = (λ e. refl, λ e. refl)
refuses-none (refused number place) = (λ e. absurd (true≢false e), λ e. absurd (never number place tt e))

pub refuse-first : (test : ℕ → Bool) (n number i : ℕ) → (refuse (some test n) number (first test n 0) ≡ refused number i) ↔ (First test n 0 i × (i < n))
refuse-first test n number i = (
  λ e. go (some test n) refl e,
  λ h. let at : first test n 0 ≡ i = first-only test n 0 (first test n 0) i (first-is test n 0) h.0 in rw (at, lt-ltb i n h.1),
)
  where
    go : (b : Bool) → some test n ≡ b → refuse b number (first test n 0) ≡ refused number i → First test n 0 i × (i < n)
    go true s e =
        let at : first test n 0 ≡ i = cc in
        (rw at at (first-is test n 0), rw at at (ltb-true (first test n 0) n s))
    go false s e = absurd (never number i tt (sym e))

-- ---- the numbers that an answer can give

pub given-value : {A : Type 0} (v : A) → Given [] (answered v)
given-value v = record { each = λ number place e. absurd (never number place v (sym e)) }

pub given-check : (cause : Bool) (number place : ℕ) → Given (number ∷ []) (refuse cause number place)
given-check true number place = record { each = λ m i e. let same : m ≡ number = cc in rw (eq-eqb m number same) }
given-check false number place = record { each = λ m i e. absurd (never m i tt (sym e)) }

in_left : (n : ℕ) (ns ms : List ℕ) → is_in n ns ≡ true → is_in n (ns ++ ms) ≡ true
in_left n [] ms h = absurd (true≢false (sym h))
in_left n (k ∷ ns) ms h = go (eqb n k) h (in_left n ns ms)
  where
    go : (b : Bool) → (b || is_in n ns) ≡ true → (is_in n ns ≡ true → is_in n (ns ++ ms) ≡ true) → (b || is_in n (ns ++ ms)) ≡ true
    go true e rest = refl
    go false e rest = rest e

in_right : (n : ℕ) (ns ms : List ℕ) → is_in n ms ≡ true → is_in n (ns ++ ms) ≡ true
in_right n [] ms h = h
in_right n (k ∷ ns) ms h = rw (in_right n ns ms h) (or-true (eqb n k))

pub given-after : {A : Type 0} {ns ms : List ℕ} {v : Verdict} {a : Answer A} → Given ns v → (v ≡ fine → Given ms a) → Given (ns ++ ms) (v and_then a)
given-after {ns = ns} {ms = ms} {v = answered u} hv ha = record { each = λ number place e. in_right number ns ms ((ha refl).each number place e) }
given-after {ns = ns} {ms = ms} {v = refused n i} hv ha = record { each = λ number place e. in_left number ns ms (hv.each number place (cc)) }

pub given-then : {A : Type 0} {ns ms : List ℕ} {v : Verdict} {a : Answer A} → Given ns v → Given ms a → Given (ns ++ ms) (v and_then a)
given-then hv ha = given-after hv (λ e. ha)

pub given-never : {A : Type 0} {ns : List ℕ} {a : Answer A} (n : ℕ) → is_in n ns ≡ false → Given ns a → Never n a
given-never n other h place e = true≢false (sym (h.each n place e) ∙ other)

-- says gives the numbers of an answer's cases, and back takes them to the case again
pub once : {E A : Type 0} (says : E → Answer A) (back : Answer A → E) → ((r : E) → back (says r) ≡ r) → (a b : E) (x : Answer A) → says a ≡ x → says b ≡ x → a ≡ b
once says back same a b x ha hb = sym (same a) ∙ ap back (ha ∙ sym hb) ∙ same b

pub left-length : (v : Verdict) (new old : List ℕ) → (v ≡ fine → length new ≤ length old) → length (left_by v new old) ≡ length old
left-length (answered u) new old h = simp (length-append, length-drop) (omega (arith, h refl))
left-length (refused number place) new old h = refl

pub wrote-left : (v : Verdict) (new old : List ℕ) (m : ℕ) → wrote v new ≡ answered m → take m (left_by v new old) ≡ new
wrote-left (answered u) new old m e =
    let count : m ≡ length new = cc in
    rw count (take-append_seam new (drop (length new) old))
wrote-left (refused number place) new old m e = absurd (never number place m e)
