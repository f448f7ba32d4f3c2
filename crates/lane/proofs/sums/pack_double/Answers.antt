-- `pack_double` meets its contract: w is the word of the coefficients after those still to come, which is no more than the whole. Assumes nothing.
use Rattle.std.proofs.Common.{ℕ, ◌≡◌, ◌+◌, ◌-◌, ◌<◌, ◌≤◌, List, [], ◌∷◌, ◌++◌, length, drop, sym, ap, ◌∙◌, arith, length-append, append-nil}
use Rattle.std.proofs.Math.ListN.{drop_of_length-le}
use Rattle.std.proofs.Math.Seq.{append_snoc, drop-append_seam, get_or-append_seam}
use Rattle.polynomials.specs.Lists.{coefficient}
use Rattle.doubles.specs.Whole.{whole_part, Held}
use Rattle.packed.specs.Taken.{taken_one}
use Rattle.lane.specs.SumLaws.{packed_none, pack-times, pack-plus, pack-next}
use Rattle.lane.proofs.sums.pack_double.Goals.{After-taken_one}
use Rattle.lane.proofs.sums.pack_double.Goals as goal

-- a turn, which takes the last of the rest
module _ (x : ℕ) (xs rest before : List ℕ) (step : rest ≡ before ++ (x ∷ [])) (all : rest ++ drop (length rest) xs ≡ xs) where
  cut : before ++ (x ∷ drop (length rest) xs) ≡ xs
  cut = sym (append_snoc before x (drop (length rest) xs)) ∙ rw (← step) all

  size : length rest ≡ length before + 1
  size = rw step (length-append before (x ∷ []))

  more : 0 < length rest
  more = omega (arith, size)

  inside : length rest ≤ length xs
  inside = omega (arith, length-append rest (drop (length rest) xs), ap (λ (zs : List ℕ). length zs) all)

  below : length rest - 1 ≡ length before
  below = omega (arith, size)

  last : x ≡ coefficient xs (length rest - 1)
  last = rw below (sym (rw cut at (get_or-append_seam before x (drop (length rest) xs) 0)))

  still : before ++ drop (length before) xs ≡ xs
  still = let next : drop (length before) xs ≡ x ∷ drop (length rest) xs = rw cut at (drop-append_seam before (x ∷ drop (length rest) xs)) in rw next cut

took : (c : After-taken_one) → Held c.taken_one.result (taken_one c.args.p (coefficient c.args.xs.now (length c.loop-x.x-iterator.iter.rest.now - 1)))
took c =
    rw (← last c.in-Some.x.now c.args.xs.now c.loop-x.x-iterator.iter.rest.now c.next.new.self.iter.rest.now c.in-Some.ensures.steps c.loop-x.invariant.0) c.taken_one.ensures

pub loop-x-init : goal.loop-x-init
loop-x-init c =
    let a = c.args in
    let all : c.into_iter-x-iterator.result.iter.rest.now ≡ a.xs.now = rw (c.into_iter-x-iterator.ensures.into_iter_gives, c.rev-x-items.ensures.source) c.iter.ensures.rest in
    rw (all, drop_of_length-le a.xs.now {i = length a.xs.now} (omega arith)) (append-nil a.xs.now, packed_none a.p (whole_part a.q) a.xs.now)

pub times-requires : goal.times-requires
times-requires c =
    let xs = c.args.xs.now in
    let rest = c.loop-x.x-iterator.iter.rest.now in
    let before = c.next.new.self.iter.rest.now in
    let steps = c.in-Some.ensures.steps in
    let all = c.loop-x.invariant.0 in
    pack-times c.requires (more c.in-Some.x.now xs rest before steps all) (inside c.in-Some.x.now xs rest before steps all) c.loop-x.invariant.1

pub plus-w-requires : goal.plus-w-requires
plus-w-requires c =
    let xs = c.args.xs.now in
    let rest = c.loop-x.x-iterator.iter.rest.now in
    let before = c.next.new.self.iter.rest.now in
    let steps = c.in-Some.ensures.steps in
    let all = c.loop-x.invariant.0 in
    pack-plus c.requires (more c.in-Some.x.now xs rest before steps all) (inside c.in-Some.x.now xs rest before steps all) c.loop-x.invariant.1 c.times.ensures (took c)

pub loop-x-preserved : goal.loop-x-preserved
loop-x-preserved c =
    let x = c.in-Some.x.now in
    let xs = c.args.xs.now in
    let rest = c.loop-x.x-iterator.iter.rest.now in
    let before = c.next.new.self.iter.rest.now in
    let steps = c.in-Some.ensures.steps in
    let all = c.loop-x.invariant.0 in (
      still x xs rest before steps all,
      rw (← below x xs rest before steps all)
          (pack-next c.requires (more x xs rest before steps all) (inside x xs rest before steps all) c.loop-x.invariant.1 c.times.ensures (took (goal.at.loop-x-preserved c).After-taken_one) c.plus-w.ensures),
    )
