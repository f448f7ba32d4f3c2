-- `pack_taken` meets its contract: w is the word of the coefficients after those still to come, which is no more than the whole. Assumes nothing.
use Rattle.std.proofs.Common.{ℕ, ◌≡◌, ◌+◌, ◌-◌, ◌*◌, ◌^◌, ◌<◌, ◌≤◌, List, [], ◌∷◌, ◌++◌, length, drop, sym, ap, ◌∙◌, arith, length-append, lt_of_le_of_lt, pow_pos, append-nil, refl}
use Rattle.std.proofs.lemmas.Nat.{one_shl}
use Rattle.std.proofs.Math.ListN.{drop_of_length-le}
use Rattle.std.proofs.Math.Seq.{append_snoc, drop-append_seam, get_or-append_seam}
use Rattle.polynomials.specs.Lists.{coefficient}
use Rattle.polynomials.specs.Places.{packed}
use Rattle.packed.specs.Taken.{taken, taken_one, taken-length, taken-turn, taken-most}
use Rattle.packed.proofs.arithmetic.pack_taken.Goals.{In-Some}
use Rattle.packed.proofs.arithmetic.pack_taken.Goals as goal

-- a turn, which takes the last of the rest
module _ (q p w x : ℕ) (xs rest before : List ℕ) (step : rest ≡ before ++ (x ∷ [])) (all : rest ++ drop (length rest) xs ≡ xs) (here : w ≡ packed q (drop (length rest) (taken p xs))) where
  cut : before ++ (x ∷ drop (length rest) xs) ≡ xs
  cut = sym (append_snoc before x (drop (length rest) xs)) ∙ rw (← step) all

  size : length rest ≡ length before + 1
  size = rw step (length-append before (x ∷ []))

  inside : length rest ≤ length xs
  inside = omega (arith, length-append rest (drop (length rest) xs), ap (λ (zs : List ℕ). length zs) all)

  last : x ≡ coefficient xs (length before)
  last = sym (rw cut at (get_or-append_seam before x (drop (length rest) xs) 0))

  still : before ++ drop (length before) xs ≡ xs
  still = let next : drop (length before) xs ≡ x ∷ drop (length rest) xs = rw cut at (drop-append_seam before (x ∷ drop (length rest) xs)) in rw next cut

  below : length rest - 1 ≡ length before
  below = omega (arith, size)

  turn : w * q + taken_one p x ≡ packed q (drop (length before) (taken p xs))
  turn = rw (last, ← below) (taken-turn q p xs (length rest) w (omega (arith, size)) inside here)

  most : 0 < q → w * q + taken_one p x ≤ packed q (taken p xs)
  most some = rw (last, ← below) (taken-most q p xs (length rest) w some (omega (arith, size)) inside here)

turned : (c : In-Some) → c.loop-x.w * 2 ^ c.args.t + taken_one c.args.p c.in-Some.x.now < 2 ^ 64
turned c =
    let a = c.args in
    let l = c.loop-x in
    lt_of_le_of_lt (most (2 ^ a.t) a.p l.w c.in-Some.x.now a.xs.now l.x-iterator.iter.rest.now c.next.new.self.iter.rest.now c.in-Some.ensures.steps l.invariant.0 l.invariant.1 (pow_pos a.t)) c.requires.2

pub loop-x-init : goal.loop-x-init
loop-x-init c =
    let a = c.args in
    let all : c.into_iter-x-iterator.result.iter.rest.now ≡ a.xs.now = rw (c.into_iter-x-iterator.ensures.into_iter_gives, c.rev-x-items.ensures.source) c.iter.ensures.rest in
    rw (all, drop_of_length-le a.xs.now {i = length a.xs.now} (omega arith), drop_of_length-le (taken a.p a.xs.now) {i = length a.xs.now} (rw taken-length (omega arith))) (append-nil a.xs.now, refl)

pub overflow_mul-w : goal.overflow_mul-w
overflow_mul-w c = rw (one_shl c.args.t 64 c.requires.1) (omega (arith, turned c))

pub overflow_add-w : goal.overflow_add-w
overflow_add-w c = rw (one_shl c.args.t 64 c.requires.1, c.taken_one.ensures) (record { fits = turned (goal.at.overflow_add-w c).In-Some })

pub loop-x-preserved : goal.loop-x-preserved
loop-x-preserved c =
    let a = c.args in
    let l = c.loop-x in
    let rest = l.x-iterator.iter.rest.now in
    let before = c.next.new.self.iter.rest.now in
    let x = c.in-Some.x.now in (
      still (2 ^ a.t) a.p l.w x a.xs.now rest before c.in-Some.ensures.steps l.invariant.0 l.invariant.1,
      rw (one_shl a.t 64 c.requires.1, c.taken_one.ensures) (turn (2 ^ a.t) a.p l.w x a.xs.now rest before c.in-Some.ensures.steps l.invariant.0 l.invariant.1),
    )
