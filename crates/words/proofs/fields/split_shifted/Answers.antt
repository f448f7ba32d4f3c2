-- `split_shifted` meets its contract: rest and quotient are word and quotient from place i on. Assumes nothing.
use Rattle.std.proofs.Common.{ℕ, ◌≡◌, ◌≤◌, ◌-◌, ◌*◌, ◌/◌, ◌^◌, ap, ◌∙◌, arith, mod-lt, lt_of_lt_of_le, length-set}
use Rattle.polynomials.specs.IndexLaws.{filled_more}
use Rattle.polynomials.specs.Places.{shifted}
use Rattle.polynomials.specs.PlaceLaws.{field_next}
use Rattle.polynomials.specs.ReductionLaws.{quotient-under, shifted-quotient}
use Rattle.settings.specs.Settings.{base}
use Rattle.words.proofs.fields.split_shifted.Goals.{In-loop-i}
use Rattle.words.proofs.fields.split_shifted.Goals as goal

-- p times the quotient is no more than the rest, at every place
under : (c : In-loop-i) → c.args.s.setting.p * c.loop-i.quotient ≤ c.loop-i.rest
under c =
    let a = c.args in
    let l = c.loop-i in
    rw (l.invariant.2, l.invariant.3) (quotient-under a.s.setting.p (base a.s.setting) a.word l.i)

-- what is written is u
written : (c : In-loop-i) → c.loop-i.rest - c.args.s.setting.p * c.loop-i.quotient ≡ shifted c.args.s.setting.p (base c.args.s.setting) c.args.word c.loop-i.i
written c =
    let a = c.args in
    let l = c.loop-i in
    rw (l.invariant.2, l.invariant.3) (shifted-quotient a.s.setting.p (base a.s.setting) a.word l.i)

pub overflow_sub-out : goal.overflow_sub-out
overflow_sub-out c = under c

pub overflow_cast-out : goal.overflow_cast-out
overflow_cast-out c =
    let a = c.args in
    let choice = a.s.bounds.range.choice in
    rw (written c) (record { fits = lt_of_lt_of_le (mod-lt (a.word / base a.s.setting ^ c.loop-i.i) (omega (arith, choice.p_low))) choice.p_high })

pub loop-i-preserved : goal.loop-i-preserved
loop-i-preserved c =
    let a = c.args in
    let l = c.loop-i in
    let p = a.s.setting.p in
    let q = base a.s.setting in (
      filled_more (shifted p q a.word) a.out.now l.out l.i (l.rest - p * l.quotient) (omega arith) l.invariant.0 (written c),
      simp length-set l.invariant.1,
      ap (λ (n : ℕ). n / q) l.invariant.2 ∙ field_next q a.word l.i,
      ap (λ (n : ℕ). n / q) l.invariant.3 ∙ field_next q (a.word / p) l.i,
    )
