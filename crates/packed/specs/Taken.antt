-- What packing takes of the coefficients that it is given: the coefficients themselves. All promises that pack speak of it.
--     taken p xs                      what packing takes of a list; taken_one p x, of one coefficient
--     taken-length, taken-at, taken-join
--                                     it has the list's length; it is taken one by one; of joined lists from each
--     taken-below, taken-low, taken-operand
--                                     of a list below p it is the list, and so below p, and an operand
--     taken-part                      what is taken of the part of a list where block i stands is block i of what is taken of the list
--     taken-block                     and so they pack to one number, where the block is whole
--     taken-turn, taken-most          packing from the highest place down: the turn from place i to the one below, which gives no more than the whole
use Rattle.std.specs.Prelude.{ℕ, ◌+◌, ◌-◌, ◌*◌, ◌≤◌, ◌<◌, min, ◌≡◌, refl, List, ◌++◌, length, drop}
use Rattle.std.proofs.Common.{sym, ◌∙◌, arith, length-take}
use Rattle.std.proofs.Math.Decide.{dec_lt}
use Rattle.polynomials.specs.IndexLaws.{length-upto}
use Rattle.polynomials.specs.Lists.{coefficient, part, Below, Operand}
use Rattle.polynomials.specs.ListLaws.{coefficient-past, coefficient-part}
use Rattle.polynomials.specs.Places.{packed}
use Rattle.polynomials.specs.PlaceLaws.{packed-agree, packed-turn, packed-part}
use Rattle.polynomials.specs.Blocks.{block, block_at}
use Rattle.polynomials.specs.BlockLaws.{coefficient-block}

unfoldable pub taken_one : ℕ → ℕ → ℕ
taken_one p x = x

unfoldable pub taken : ℕ → List ℕ → List ℕ
taken p xs = xs

pub taken-length : (p : ℕ) (xs : List ℕ) → length (taken p xs) ≡ length xs
unfolding taken
taken-length p xs = refl

pub taken-at : (p : ℕ) (xs : List ℕ) (i : ℕ) → coefficient (taken p xs) i ≡ taken_one p (coefficient xs i)
unfolding taken taken_one
taken-at p xs i = refl

pub taken-join : (p : ℕ) (xs ys : List ℕ) → taken p (xs ++ ys) ≡ taken p xs ++ taken p ys
unfolding taken
taken-join p xs ys = refl

pub taken-below : (p : ℕ) (xs : List ℕ) → Below p xs → taken p xs ≡ xs
unfolding taken
taken-below p xs h = refl

pub taken-low : (p : ℕ) (xs : List ℕ) → Below p xs → Below p (taken p xs)
taken-low p xs h = rw (taken-below p xs h) h

pub taken-operand : (p k : ℕ) (xs : List ℕ) → length xs ≤ k → Below p xs → Operand p k (taken p xs)
taken-operand p k xs h b = record { size = rw taken-length h; below = taken-low p xs b }

-- ---- of parts of a list

pub taken-part : (p k : ℕ) (xs : List ℕ) (i start end j : ℕ) → start ≡ min (i * k) (length xs) → end ≡ min (start + k) (length xs)
    → coefficient (taken p (part start end xs)) j ≡ coefficient (block k (taken p xs) i) j
taken-part p k xs i start end j hs he = go (dec_lt j (end - start)) (dec_lt j k)
  where
    go : Dec (j < end - start) → Dec (j < k) → coefficient (taken p (part start end xs)) j ≡ coefficient (block k (taken p xs) i) j
    go (yes l) d =
        let here : start ≡ i * k = omega arith in
        let at : coefficient (part start end xs) j ≡ coefficient xs (i * k + j) = coefficient-part start end xs j l ∙ rw here in
        taken-at p (part start end xs) j ∙ rw (at, ← taken-at p xs (i * k + j)) (sym (coefficient-block k (taken p xs) i j (omega arith)))
    go (no l) (yes h) =
        coefficient-past (taken p (part start end xs)) j (simp (taken-length, length-take) (omega arith))
        ∙ sym (coefficient-block k (taken p xs) i j h ∙ coefficient-past (taken p xs) (i * k + j) (rw taken-length (omega arith)))
    go (no l) (no h) =
        coefficient-past (taken p (part start end xs)) j (simp (taken-length, length-take) (omega arith))
        ∙ sym (coefficient-past (block k (taken p xs) i) j (rw length-upto (omega arith)))

pub taken-block : (q p k : ℕ) (xs : List ℕ) (i : ℕ) → i * k + k ≤ length xs → packed q (taken p (part (i * k) (i * k + k) xs)) ≡ block_at q k (taken p xs) i
taken-block q p k xs i h =
    packed-agree q (taken p (part (i * k) (i * k + k) xs)) (block k (taken p xs) i) (λ j. taken-part p k xs i (i * k) (i * k + k) j (omega arith) (omega arith))

module _ (q p : ℕ) (xs : List ℕ) (i w : ℕ) where
  pub taken-turn : 0 < i → i ≤ length xs → w ≡ packed q (drop i (taken p xs)) → w * q + taken_one p (coefficient xs (i - 1)) ≡ packed q (drop (i - 1) (taken p xs))
  taken-turn above top e = rw (← taken-at p xs (i - 1)) (packed-turn q (taken p xs) i w above (rw taken-length top) e)

  pub taken-most : 0 < q → 0 < i → i ≤ length xs → w ≡ packed q (drop i (taken p xs)) → w * q + taken_one p (coefficient xs (i - 1)) ≤ packed q (taken p xs)
  taken-most hq above top e = rw (taken-turn above top e) (packed-part q hq (taken p xs) (i - 1))
