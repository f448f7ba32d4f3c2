-- `largest_word` meets its contract: after so many turns w is the word of as many coefficients. Assumes nothing.
use Rattle.std.proofs.Common.{ℕ, ◌≡◌, ◌+◌, ◌-◌, ◌*◌, ◌^◌, ◌<◌, arith, replicate, mul_comm, add-one}
use Rattle.polynomials.specs.Places.{packed}
use Rattle.settings.specs.Settings.{base}
use Rattle.settings.specs.declared.accepted.Accepted.{Accepted}
use Rattle.packed.specs.OverflowLaws.{largest-operand}
use Rattle.packed.proofs.overflow.largest_word.Goals as goal

module _ (s : Accepted) (w i : ℕ) (inv : w ≡ packed (base s.setting) (replicate i (s.setting.p - 1))) (more : i < s.setting.k) where
  turn : w * base s.setting + (s.setting.p - 1) ≡ packed (base s.setting) (replicate (i + 1) (s.setting.p - 1))
  turn = rw (add-one, inv, mul_comm (packed (base s.setting) (replicate i (s.setting.p - 1))) (base s.setting)) (omega arith)

  room : w * base s.setting + (s.setting.p - 1) < 2 ^ 32
  room = rw turn (s.bounds.word_fits (replicate (i + 1) (s.setting.p - 1)) (largest-operand s.setting.p s.setting.k (i + 1) (omega (arith, s.bounds.range.choice.p_low)) (omega arith)))

pub overflow_mul-w : goal.overflow_mul-w
overflow_mul-w c = rw c.base-q.ensures (omega (arith, room c.args.s c.loop.w c.loop.counter c.loop.invariant (omega arith)))

pub overflow_add-w : goal.overflow_add-w
overflow_add-w c = rw c.base-q.ensures (omega (arith, room c.args.s c.loop.w c.loop.counter c.loop.invariant (omega arith)))

pub loop-preserved : goal.loop-preserved
loop-preserved c = rw c.base-q.ensures (turn c.args.s c.loop.w c.loop.counter c.loop.invariant (omega arith))
