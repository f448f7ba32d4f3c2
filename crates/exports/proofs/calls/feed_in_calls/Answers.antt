-- `feed_in_calls` meets its contract: where the lists are cut, a call's coefficients are no more than all of them. Assumes nothing.
use Rattle.std.proofs.Common.{ℕ, ◌*◌, ◌/◌, ◌≤◌, length, mul-le-mul_right, mul-pos, arith}
use native.Mathlib.Nat.{div-add-mod'}
use Rattle.settings.specs.Bounds.{bounds}
use Rattle.exports.proofs.calls.feed_in_calls.Goals.{Start}
use Rattle.exports.proofs.calls.feed_in_calls.Goals as goal

k-some : (c : Start) → 1 ≤ c.args.running.setting.k
k-some c = (bounds c.args.running.setting c.requires.accepted).range.choice.k_low

within : (size k len : ℕ) → size ≤ len / k → size * k ≤ len
within size k len h = omega (arith, mul-le-mul_right {m = size} {n = len / k} k h, div-add-mod' len k)

pub nonzero_div-xs : goal.nonzero_div-xs
nonzero_div-xs c = k-some (goal.at.nonzero_div-xs c).Start

pub overflow_mul-size : goal.overflow_mul-size
overflow_mul-size c =
    let a = c.args in
    record { fits = omega (arith, within a.size a.running.setting.k (length a.xs.now) c.if-xs-k.false) }

pub feed_steps-requires : goal.feed_steps-requires
feed_steps-requires c =
    (c.requires, c.if-xs-ys.false, mul-pos (omega arith) (k-some (goal.at.feed_steps-requires c).Start))
