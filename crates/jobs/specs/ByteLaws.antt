-- Laws of bytes, as the loops on them use them. Assumes nothing.
--     length-coefficients_in, coefficients_in-at     how many coefficients stand in bytes, and coefficient i: two bytes, the high one first
--     filled-zeros                                 a list written over zeros is that list with zeros after it
--     raised-none, raised-more                     a loop that raises bounds: at its start, its turn
--     Bounded, bounded-none, bounded-more          what is above all bounds is above the first i coefficients; at the start, and after bounds are raised
--     copied_none, copied_more                     a copying loop: at its start, its turn
--     apart_none, apart_more                       a loop that takes pairs apart: at its start, its turn
--     Turn, apart-turn                             what its turn copies is there, with room for it, and the turns are few
use Rattle.std.specs.Prelude.{ℕ, suc, ◌+◌, ◌-◌, ◌*◌, ◌/◌, ◌≤◌, ◌<◌, ◌≡◌, refl, List, [], length, set, replicate}
use Rattle.std.proofs.Common.{sym, ◌∙◌, le_trans, add-zero, zero-add, zero-mul, suc-mul, mul-le-mul_right, le-mul_of_pos_right, add-one, arith, get_or-set_same, get_or-set_other}
use Rattle.std.proofs.Math.Decide.{dec_lt, ℕ_discrete}
use Rattle.std.proofs.lemmas.List.{length-replicate}
use Rattle.polynomials.specs.Indices.{upto, filled}
use Rattle.polynomials.specs.IndexLaws.{length-upto, upto-at}
use Rattle.polynomials.specs.Lists.{coefficient}
use Rattle.polynomials.specs.ListLaws.{lists_agree, coefficient-past, coefficient-zeros, filled_at, filled-after, length-filled}
use Rattle.layout.specs.Numbers.{number_at}
use Rattle.settings.specs.Coefficients.{NoneAbove}
use Rattle.jobs.specs.Jobs.{coefficients_in}
use Rattle.jobs.specs.Apart.{Raised, block_size, Copying, Copied, Parting, TakenApart}

pub length-coefficients_in : (bs : List ℕ) → length (coefficients_in bs) ≡ length bs / 2
length-coefficients_in bs = length-upto (length bs / 2) (λ i. number_at bs (2 * i) 2)

pub coefficients_in-at : (bs : List ℕ) (i : ℕ) → i < length bs / 2 → coefficient (coefficients_in bs) i ≡ coefficient bs (2 * i) * 256 + coefficient bs (2 * i + 1)
coefficients_in-at bs i h = upto-at (length bs / 2) (λ i. number_at bs (2 * i) 2) i h ∙ rw (zero-mul, zero-add, add-zero)

pub filled-zeros : (xs : List ℕ) (n : ℕ) → length xs ≤ n → filled (length xs) (coefficient xs) (replicate n 0) ≡ upto n (coefficient xs)
filled-zeros xs n h = lists_agree (filled (length xs) f zeros) (upto n f) (size ∙ sym (length-upto n f)) (λ j l. at j (dec_lt j (length xs)) (rw size at l))
  where
    f : ℕ → ℕ
    f = coefficient xs

    zeros : List ℕ
    zeros = replicate n 0

    size : length (filled (length xs) f zeros) ≡ n
    size = length-filled (length xs) f zeros (rw length-replicate h) ∙ length-replicate n 0

    at : (j : ℕ) → Dec (j < length xs) → j < n → coefficient (filled (length xs) f zeros) j ≡ coefficient (upto n f) j
    at j (yes l) b = filled_at (length xs) f zeros j l ∙ sym (upto-at n f j b)
    at j (no l) b =
        filled-after (length xs) f zeros j (omega arith) ∙ coefficient-zeros [] n j ∙ sym (upto-at n f j b ∙ coefficient-past xs j (omega arith))

-- ---- bounds

pub raised-none : (cs : List ℕ) (i : ℕ) (old : List ℕ) → Raised cs i 0 old old
raised-none cs i old = record { kept = λ j. omega arith; above = λ j l. absurd (omega arith) }

pub raised-more : (cs : List ℕ) (i j : ℕ) (old now : List ℕ) (v : ℕ) → j < length now → coefficient now j ≤ v → coefficient cs (i + j) ≤ v → Raised cs i j old now
    → Raised cs i (j + 1) old (set now j v)
raised-more cs i j old now v h more here r = record { kept = λ q. le_trans (r.kept q) (higher q (ℕ_discrete q j)); above = λ q l. at q l (dec_lt q j) }
  where
    higher : (q : ℕ) → Dec (q ≡ j) → coefficient now q ≤ coefficient (set now j v) q
    higher q (yes e) = rw (e, get_or-set_same now j v 0 h) more
    higher q (no n) = rw (get_or-set_other now j q v 0 n) (omega arith)

    at : (q : ℕ) → q < j + 1 → Dec (q < j) → coefficient cs (i + q) ≤ coefficient (set now j v) q
    at q l (yes b) = le_trans (r.above q b) (higher q (ℕ_discrete q j))
    at q l (no b) = let last : q ≡ j = omega arith in rw (last, get_or-set_same now j v 0 h) here

abbrev pub Bounded : List ℕ → ℕ → List ℕ → Type 0
Bounded cs i bounds = (v : ℕ) → NoneAbove v bounds → (j : ℕ) → j < i → coefficient cs j ≤ v

pub bounded-none : (cs bounds : List ℕ) → Bounded cs 0 bounds
bounded-none cs bounds v n j l = absurd (omega arith)

pub bounded-more : (cs : List ℕ) (i m : ℕ) (old new : List ℕ) → Bounded cs i old → Raised cs i m old new → Bounded cs (i + m) new
bounded-more cs i m old new b r v n j l = go (dec_lt j i)
  where
    go : Dec (j < i) → coefficient cs j ≤ v
    go (yes h) = b v (record { each = λ q. le_trans (r.kept q) (n.each q) }) j h
    go (no h) =
        let there : i + (j - i) ≡ j = omega arith in
        rw there at (le_trans (r.above (j - i) (omega arith)) (n.each (j - i)))

-- ---- copies

pub copied_none : (cs : List ℕ) (i j : ℕ) (old : List ℕ) → Copied cs i j 0 old old
copied_none cs i j old = record { put = λ r l. absurd (omega arith); before = λ r l. refl }

pub copied_more : (cs : List ℕ) (i j r : ℕ) (old now : List ℕ) (v : ℕ) → j + r < length now → v ≡ coefficient cs (i + r) → Copied cs i j r old now
    → Copied cs i j (r + 1) old (set now (j + r) v)
copied_more cs i j r old now v h e c = record { put = λ q l. at q l (dec_lt q r); before = λ q l. kept q (omega arith) ∙ c.before q l }
  where
    kept : (q : ℕ) → q < j + r → coefficient (set now (j + r) v) q ≡ coefficient now q
    kept q l = get_or-set_other now (j + r) q v 0 (λ s. omega arith)

    at : (q : ℕ) → q < r + 1 → Dec (q < r) → coefficient (set now (j + r) v) (j + q) ≡ coefficient cs (i + q)
    at q l (yes b) = kept (j + q) (omega arith) ∙ c.put q b
    at q l (no b) = let last : q ≡ r = omega arith in rw last (get_or-set_same now (j + r) v 0 h ∙ e)

-- ---- pairs

pub apart_none : (k : ℕ) (cs xs ys : List ℕ) → TakenApart k 0 cs xs ys
apart_none k cs xs ys = record { left = λ r j l b. absurd (omega arith); right = λ r j l b. absurd (omega arith) }

-- block r of k, put after the blocks before it: all r + 1 of them are there
block_more : (k r : ℕ) (cs : List ℕ) (at : ℕ → ℕ) (old now : List ℕ) → ((q j : ℕ) → q < r → j < k → coefficient old (q * k + j) ≡ coefficient cs (at q + j))
    → Copied cs (at r) (r * k) k old now → (q j : ℕ) → q < r + 1 → j < k → coefficient now (q * k + j) ≡ coefficient cs (at q + j)
block_more k r cs at old now held c q j l b = go (dec_lt q r)
  where
    go : Dec (q < r) → coefficient now (q * k + j) ≡ coefficient cs (at q + j)
    go (yes h) = c.before (q * k + j) (omega (arith, suc-mul q k, mul-le-mul_right {m = suc q} {n = r} k h)) ∙ held q j h b
    go (no h) = let last : q ≡ r = omega arith in rw last (c.put j b)

pub apart_more : (k r : ℕ) (cs xs ys xs2 ys2 : List ℕ) → TakenApart k r cs xs ys → Copied cs (2 * r * k) (r * k) k xs xs2 → Copied cs ((2 * r + 1) * k) (r * k) k ys ys2
    → TakenApart k (r + 1) cs xs2 ys2
apart_more k r cs xs ys xs2 ys2 t a b = record {
  left = block_more k r cs (λ q. 2 * q * k) xs xs2 t.left a;
  right = block_more k r cs (λ q. (2 * q + 1) * k) ys ys2 t.right b;
}

pub record Turn (k r : ℕ) (bs : List ℕ) : Type 0 where
  pub few : r < block_size
  pub first : Copying bs (2 * r * k) (r * k) k
  pub second : Copying bs ((2 * r + 1) * k) (r * k) k

pub apart-turn : (k m r : ℕ) (bs : List ℕ) → Parting k m bs → r < m → Turn k r bs
apart-turn k m r bs p h = record {
  few = omega (arith, p.room, le-mul_of_pos_right m p.k_low);
  first = record { there = omega (arith, there, suc-mul (2 * r) k, add-one (2 * r)); room = room };
  second = record { there = there; room = room };
}
  where
    there : (2 * r + 1) * k + k ≤ length bs / 2
    there = rw add-one (omega (arith, p.there, suc-mul (suc (2 * r)) k, mul-le-mul_right {m = suc (suc (2 * r))} {n = 2 * m} k (omega arith)))

    room : r * k + k ≤ block_size
    room = omega (arith, p.room, suc-mul r k, mul-le-mul_right {m = suc r} {n = m} k h)
