-- Laws of what runs over an index. Assumes nothing.
--     length-upto, upto-at, upto-past               the list's length, its elements, and zero past its end
--     upto-most                                     no element is above f's value there, also past the end
--     upto-same, upto-join                          element by element; some and then more
--     filled_more                                   a filling loop's turn at i
--     sum-zero, sum-front, sum_same, sum-window     sums: of zeros; first term apart; term by term; of a window of terms
--     sum-join, sum-fewer, sum-part                 some terms and then more; fewer are no more; a part, where the others are zero
--     first-is, first-only                          the search finds what First says, and First says it of one number only
--     first-none                                    it is through exactly where the test holds at none of the numbers from 0
--     first_found, first-passed, first_ended        a searching loop's turn at i: it stops, it goes on, it is through
--     some-none                                     it holds at none of them exactly where some says so
--     exceeds-none                                  no value is above its bound exactly where each is at most it
--     exceeds-first, exceeds-passed, exceeds-found, exceeds-through
--                                                   a loop that looks for one: at its start, its turn at i, where it stops, where it is through
use Rattle.std.specs.Prelude.{ℕ, zero, suc, ◌+◌, ◌-◌, ◌*◌, ◌≤◌, ◌<◌, min, ◌≡◌, refl, Bool, true, false, ◌↔◌, List, [], ◌∷◌, ◌++◌, length, get_or, set, drop}
use Rattle.std.proofs.Common.{zero-le, sym, ◌∙◌, true≢false, ⊎_elim, append-nil, append_assoc, not-suc-le-zero, le_of_suc-le-suc, eq-or-lt_of_le, mul-le-mul_right, suc-mul, add-zero, add-suc, add-one, arith, length-append, drop-cons, lt-ltb, ltb-false, le-ltb}
use Rattle.std.proofs.Math.Nat.{sub-zero}
use Rattle.std.proofs.Math.Decide.{dec_lt}
use Rattle.std.proofs.Math.ListN.{get_or-append, get_or-eq_default}
use Rattle.std.proofs.lemmas.List.{get_or_at, set_at}
use Rattle.std.proofs.Math.Seq.{append_snoc}
use Rattle.polynomials.specs.Indices.{pick, sum_to, upto, filled, first, First, some, above, exceeds}

pub length-upto : {A : Type 0} (n : ℕ) (f : ℕ → A) → length (upto n f) ≡ n
length-upto zero f = refl
length-upto (suc n) f = length-append (upto n f) (f n ∷ []) ∙ omega (arith, length-upto n f)

pub upto-nth : {A : Type 0} (d : A) (n : ℕ) (f : ℕ → A) (i : ℕ) → i < n → get_or (upto n f) i d ≡ f i
upto-nth d zero f i h = absurd (not-suc-le-zero h)
upto-nth d (suc n) f i h =
    ⊎_elim
    (λ e. let e2 : i ≡ n = omega arith in rw e2 (get_or_at (upto n f) (f n) [] d n (length-upto n f)))
    (λ l. let l2 : i < n = omega arith in get_or-append (upto n f) (f n ∷ []) d i (rw length-upto l2) ∙ upto-nth d n f i l2)
    (eq-or-lt_of_le (le_of_suc-le-suc h))

pub upto-at : (n : ℕ) (f : ℕ → ℕ) (i : ℕ) → i < n → get_or (upto n f) i 0 ≡ f i
upto-at = upto-nth 0

pub upto-past : (n : ℕ) (f : ℕ → ℕ) (i : ℕ) → n ≤ i → get_or (upto n f) i 0 ≡ 0
upto-past n f i h = get_or-eq_default (upto n f) 0 {n = i} (rw length-upto h)

pub upto-same : {A : Type 0} (n : ℕ) (f g : ℕ → A) → ((i : ℕ) → i < n → f i ≡ g i) → upto n f ≡ upto n g
upto-same zero f g h = refl
upto-same (suc n) f g h = rw (upto-same n f g (λ i l. h i (omega arith)), h n (omega arith))

pub upto-join : {A : Type 0} (m n : ℕ) (f : ℕ → A) → upto (m + n) f ≡ upto m f ++ upto n (λ r. f (m + r))
upto-join m zero f = rw (add-zero m, append-nil (upto m f))
upto-join m (suc n) f = rw (add-suc m n, upto-join m n f, append_assoc (upto m f) (upto n (λ r. f (m + r))) (f (m + n) ∷ []))

pub upto-most : (n : ℕ) (f : ℕ → ℕ) (i : ℕ) → get_or (upto n f) i 0 ≤ f i
upto-most n f i = go (dec_lt i n)
  where
    go : Dec (i < n) → get_or (upto n f) i 0 ≤ f i
    go (yes h) = rw (upto-at n f i h) (omega arith)
    go (no h) = rw (upto-past n f i (omega arith)) zero-le

-- ---- fills

pub filled_more : {A : Type 0} (f : ℕ → A) (old now : List A) (i : ℕ) (v : A) → i < length old → now ≡ filled i f old → v ≡ f i → set now i v ≡ filled (i + 1) f old
filled_more f old now i v h e w =
    rw (e, w, add-one, drop-cons old i v)
    (set_at (upto i f) (get_or old i v) (drop (suc i) old) (f i) i (length-upto i f) ∙ sym (append_snoc (upto i f) (f i) (drop (suc i) old)))

-- ---- sums

pub sum-zero : (n : ℕ) (f : ℕ → ℕ) → ((i : ℕ) → i < n → f i ≡ 0) → sum_to n f ≡ 0
sum-zero zero f h = refl
sum-zero (suc n) f h = omega (arith, sum-zero n f (λ i l. h i (omega arith)), h n (omega arith))

pub sum-front : (n : ℕ) (f : ℕ → ℕ) → sum_to (suc n) f ≡ f 0 + sum_to n (λ i. f (suc i))
sum-front zero f = omega arith
sum-front (suc n) f = omega (arith, sum-front n f)

pub sum_same : (n : ℕ) (f g : ℕ → ℕ) → ((i : ℕ) → i < n → f i ≡ g i) → sum_to n f ≡ sum_to n g
sum_same zero f g h = refl
sum_same (suc n) f g h = omega (arith, sum_same n f g (λ i l. h i (omega arith)), h n (omega arith))

pub sum-join : (f : ℕ → ℕ) (m n : ℕ) → sum_to (m + n) f ≡ sum_to m f + sum_to n (λ r. f (m + r))
sum-join f m zero = rw (add-zero m) (omega arith)
sum-join f m (suc n) = rw add-suc (omega (arith, sum-join f m n))

-- terms of at most c, and none below lo or from hi on
pub sum-window : (lo hi c : ℕ) (f : ℕ → ℕ) → ((i : ℕ) → f i ≤ c) → ((i : ℕ) → i < lo → f i ≡ 0) → ((i : ℕ) → hi ≤ i → f i ≡ 0)
    → (n : ℕ) → sum_to n f ≤ (min n hi - lo) * c
sum-window lo hi c f most low high zero = zero-le
sum-window lo hi c f most low high (suc n) = go (sum-window lo hi c f most low high n) (dec_lt n lo) (dec_lt n hi)
  where
    same : sum_to n f ≤ (min n hi - lo) * c → f n ≡ 0 → sum_to n f + f n ≤ (min (suc n) hi - lo) * c
    same ih e = omega (arith, mul-le-mul_right {m = min n hi - lo} {n = min (suc n) hi - lo} c (omega arith))

    go : sum_to n f ≤ (min n hi - lo) * c → Dec (n < lo) → Dec (n < hi) → sum_to n f + f n ≤ (min (suc n) hi - lo) * c
    go ih (yes h) d = same ih (low n h)
    go ih (no h) (no g) = same ih (high n (omega arith))
    go ih (no h) (yes g) =
        let e : min (suc n) hi - lo ≡ suc (min n hi - lo) = omega arith in
        rw (e, suc-mul) (omega (arith, most n))

pub sum-fewer : (f : ℕ → ℕ) (m n : ℕ) → m ≤ n → sum_to m f ≤ sum_to n f
sum-fewer f m n h = let e : m + (n - m) ≡ n = omega arith in rw (← e, sum-join f m (n - m)) (omega arith)

pub sum-part : (f : ℕ → ℕ) (lo m n : ℕ) → lo + m ≤ n → ((i : ℕ) → i < lo → f i ≡ 0) → ((i : ℕ) → lo + m ≤ i → i < n → f i ≡ 0) → sum_to n f ≡ sum_to m (λ r. f (lo + r))
sum-part f lo m n h low high =
    let e : lo + m + (n - (lo + m)) ≡ n = omega arith in
    let before : sum_to lo f ≡ 0 = sum-zero lo f low in
    let after : sum_to (n - (lo + m)) (λ r. f (lo + m + r)) ≡ 0 = sum-zero (n - (lo + m)) (λ r. f (lo + m + r)) (λ r l. high (lo + m + r) (omega arith) (omega arith)) in
    let parts : sum_to (lo + m + (n - (lo + m))) f ≡ sum_to (lo + m) f + sum_to (n - (lo + m)) (λ r. f (lo + m + r)) = sum-join f (lo + m) (n - (lo + m)) in
    rw e at parts ∙ omega (arith, sum-join f lo m)

-- ---- searches

pub first_found : (test : ℕ → Bool) (e i : ℕ) → i < e → test i ≡ true → first test (e - i) i ≡ i
unfolding first
first_found test e i h t =
    let s : e - i ≡ suc (e - i - 1) = omega arith in
    rw (s, t)

pub first-passed : (test : ℕ → Bool) (e i : ℕ) → i < e → test i ≡ false → first test (e - i) i ≡ first test (e - (i + 1)) (i + 1)
unfolding first
first-passed test e i h t =
    let s : e - i ≡ suc (e - (i + 1)) = omega arith in
    rw (s, t, add-one)

pub first_ended : (test : ℕ → Bool) (e i : ℕ) → e ≤ i → first test (e - i) i ≡ i
unfolding first
first_ended test e i h =
    let s : e - i ≡ 0 = omega arith in
    rw s

pub first-is : (test : ℕ → Bool) (n i : ℕ) → First test n i (first test n i)
unfolding first
first-is test zero i = record { low = omega arith; high = omega arith; none_before = λ j a b. absurd (omega arith); holds = λ a. absurd (omega arith) }
first-is test (suc n) i = go (test i) refl (first-is test n (suc i))
  where
    go : (b : Bool) → test i ≡ b → First test n (suc i) (first test n (suc i)) → First test (suc n) i (pick (test i) i (first test n (suc i)))
    go true t r = rw t (record { low = omega arith; high = omega arith; none_before = λ j a b. absurd (omega arith); holds = λ a. t })
    go false t r =
        rw t
        (record {
          low = omega (arith, r.low);
          high = omega (arith, r.high);
          none_before = λ j a b. ⊎_elim (λ e. let e2 : j ≡ i = omega arith in rw e2 t) (λ l. r.none_before j l b) (eq-or-lt_of_le a);
          holds = λ a. r.holds (omega arith);
        })

no-earlier : (test : ℕ → Bool) (n i r s : ℕ) → First test n i r → First test n i s → r < s → ⊥
no-earlier test n i r s a b h =
    let yes-at : test r ≡ true = a.holds (omega (arith, b.high)) in
    true≢false (sym yes-at ∙ b.none_before r a.low h)

pub first-only : (test : ℕ → Bool) (n i r s : ℕ) → First test n i r → First test n i s → r ≡ s
first-only test n i r s a b = go (dec_lt r s) (dec_lt s r)
  where
    go : Dec (r < s) → Dec (s < r) → r ≡ s
    go (yes h) d = absurd (no-earlier test n i r s a b h)
    go (no h) (yes g) = absurd (no-earlier test n i s r b a g)
    go (no h) (no g) = omega arith

pub first-none : (test : ℕ → Bool) (n : ℕ) → (n ≤ first test n 0) ↔ ((j : ℕ) → j < n → test j ≡ false)
first-none test n = (
  λ h j l. (first-is test n 0).none_before j (omega arith) (omega arith),
  λ none. let all : First test n 0 n = record { low = omega arith; high = omega arith; none_before = λ j a l. none j l; holds = λ a. absurd (omega arith) } in
      omega (arith, first-only test n 0 (first test n 0) n (first-is test n 0) all),
)

pub some-none : (test : ℕ → Bool) (n : ℕ) → (some test n ≡ false) ↔ ((i : ℕ) → i < n → test i ≡ false)
some-none test n = (λ e. (first-none test n).0 (ltb-false (first test n 0) n e), λ h. le-ltb (first test n 0) n ((first-none test n).1 h))

pub exceeds-none : (n : ℕ) (f most : ℕ → ℕ) → (exceeds n f most ≡ false) ↔ ((i : ℕ) → i < n → f i ≤ most i)
exceeds-none n f most = (
  λ e i l. ltb-false (most i) (f i) ((some-none (above f most) n).0 e i l),
  λ h. (some-none (above f most) n).1 (λ i l. le-ltb (most i) (f i) (h i l)),
)

-- before place i there is none: the search from 0 is the search from i
abbrev pub NoneBefore : ℕ → (ℕ → ℕ) → (ℕ → ℕ) → ℕ → Type 0
NoneBefore n f most i = first (above f most) n 0 ≡ first (above f most) (n - i) i

pub exceeds-first : (n : ℕ) (f most : ℕ → ℕ) → NoneBefore n f most 0
exceeds-first n f most = rw sub-zero

pub exceeds-passed : (n : ℕ) (f most : ℕ → ℕ) (i : ℕ) → i < n → f i ≤ most i → NoneBefore n f most i → NoneBefore n f most (i + 1)
exceeds-passed n f most i h l e = e ∙ first-passed (above f most) n i h (le-ltb (most i) (f i) l)

pub exceeds-found : (n : ℕ) (f most : ℕ → ℕ) (i : ℕ) → i < n → most i < f i → NoneBefore n f most i → exceeds n f most ≡ true
exceeds-found n f most i h l e = rw (e, first_found (above f most) n i h (lt-ltb (most i) (f i) l)) (lt-ltb i n h)

pub exceeds-through : (n : ℕ) (f most : ℕ → ℕ) (i : ℕ) → n ≤ i → NoneBefore n f most i → exceeds n f most ≡ false
exceeds-through n f most i h e = rw (e, first_ended (above f most) n i h) (le-ltb i n h)
