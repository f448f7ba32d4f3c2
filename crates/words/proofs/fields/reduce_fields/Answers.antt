-- `reduce_fields` meets its contract: w is the word of the m from i on, which is no more than the word given. Assumes nothing.
use Rattle.std.proofs.Common.{ℕ, ◌≡◌, ◌+◌, ◌-◌, ◌*◌, ◌/◌, ◌%◌, ◌^◌, ◌≤◌, ◌<◌, arith, drop, pow_pos}
use Rattle.std.proofs.Math.ListN.{drop_of_length-le}
use Rattle.polynomials.specs.IndexLaws.{length-upto}
use Rattle.polynomials.specs.Places.{packed}
use Rattle.polynomials.specs.PlaceLaws.{power-power}
use Rattle.polynomials.specs.ReductionLaws.{reduced-turn, reduced-turn-most}
use Rattle.settings.specs.Settings.{base, places}
use Rattle.settings.specs.declared.setting.Setting.{Setting}
use Rattle.words.proofs.fields.reduce_fields.Invariants.{residues_of}
use Rattle.words.proofs.fields.reduce_fields.Goals.{In-loop-i}
use Rattle.words.proofs.fields.reduce_fields.Goals as goal

module _ (s : Setting) (word i w : ℕ) (above : 0 < i) (top : i ≤ places s) (inv : w ≡ packed (base s) (drop i (residues_of s word))) where
  turn : w * base s + word / 2 ^ ((i - 1) * s.t) % base s % s.p ≡ packed (base s) (drop (i - 1) (residues_of s word))
  turn = rw (← power-power 2 s.t (i - 1)) (reduced-turn s.p (base s) (places s) word i w above top inv)

  most : w * base s + word / 2 ^ ((i - 1) * s.t) % base s % s.p ≤ word
  most = rw (← power-power 2 s.t (i - 1)) (reduced-turn-most s.p (base s) (places s) word i w (pow_pos s.t) above top inv)

turned : (c : In-loop-i) → c.loop-i.w * base c.args.s.setting + c.args.word / 2 ^ ((c.loop-i.i - 1) * c.args.s.setting.t) % base c.args.s.setting % c.args.s.setting.p ≤ c.args.word
turned c =
    let l = c.loop-i in
    most c.args.s.setting c.args.word l.i l.w (omega arith) (omega arith) l.invariant

pub loop-i-init : goal.loop-i-init
loop-i-init c =
    let a = c.args in
    rw (drop_of_length-le (residues_of a.s.setting a.word) {i = c.places-i.result} (rw length-upto (omega (arith, c.places-i.ensures))))

pub overflow_mul-w : goal.overflow_mul-w
overflow_mul-w c = rw c.base-q.ensures (omega (arith, turned c))

pub overflow_add-w : goal.overflow_add-w
overflow_add-w c = rw c.base-q.ensures (omega (arith, turned (goal.at.overflow_add-w c).In-loop-i))

pub loop-i-preserved : goal.loop-i-preserved
loop-i-preserved c =
    let l = c.loop-i in
    rw c.base-q.ensures (turn c.args.s.setting c.args.word l.i l.w (omega arith) (omega arith) l.invariant)
