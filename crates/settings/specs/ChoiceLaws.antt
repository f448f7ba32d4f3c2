-- What choose answers, without a search. Assumes nothing.
--     Open p k n            1, 2 and 3 do not hold
--     Smallest p k n t      t is from 1 to 63, escapes 5 and 6, and no smaller width does
--     choose-width          a width is answered exactly where it is the smallest
--     choose-none           7 is given exactly where no width from 1 to 63 escapes
--     choose-accepted       a setting with the chosen width is accepted
use Rattle.std.specs.Prelude.{ℕ, ◌≤◌, ◌<◌, ◌≡◌, refl, Bool, true, false, not, ◌&&◌, ◌↔◌}
use Rattle.std.proofs.Common.{sym, ap, ◌∙◌, arith, le-ltb, ltb-true, ltb-false}
use Rattle.std.proofs.lemmas.Bool.{false≢true}
use Rattle.polynomials.specs.Indices.{First}
use Rattle.polynomials.specs.IndexLaws.{first-is, first-only}
use Rattle.settings.specs.Limits.{widest}
use Rattle.settings.specs.Answers.{answered, refused, fine, refuse, ◌and_then◌}
use Rattle.settings.specs.AnswerLaws.{never, passed, passed_over}
use Rattle.settings.specs.Settings.{modulus_cause, length_cause, batch_cause, narrow_cause, room_cause, setting_checks, setting_of}
use Rattle.settings.specs.SettingLaws.{range-passes}
use Rattle.settings.specs.Choices.{escapes, smallest_width, none_cause, choose_answer}

pub record Open (p k n : ℕ) : Type 0 where
  pub modulus : modulus_cause p ≡ false
  pub coefficients : length_cause k ≡ false
  pub batch : batch_cause n ≡ false

pub record Smallest (p k n t : ℕ) : Type 0 where
  pub low : 1 ≤ t
  pub high : t ≤ widest
  pub itself : escapes p k n t ≡ true
  pub none_smaller : (u : ℕ) → 1 ≤ u → u < t → escapes p k n u ≡ false

-- the search's own answer
found : (p k n : ℕ) → First (escapes p k n) widest 1 (smallest_width p k n)
unfolding smallest_width
found p k n = first-is (escapes p k n) widest 1

-- the checks 1 to 3 passed: what is left decides
opened : (p k n : ℕ) → Open p k n → choose_answer p k n ≡ (refuse (none_cause p k n) 7 0 and_then answered (smallest_width p k n))
unfolding choose_answer
opened p k n o = rw (o.modulus, o.coefficients, o.batch)

width-forth : (p k n t : ℕ) → choose_answer p k n ≡ answered t → Open p k n × Smallest p k n t
unfolding choose_answer none_cause
width-forth p k n t e =
    let a = passed (modulus_cause p) 1 0 _ t e in
    let b = passed (length_cause k) 2 0 _ t a.1 in
    let c = passed (batch_cause n) 3 0 _ t b.1 in
    let d = passed (none_cause p k n) 7 0 _ t c.1 in
    let same : smallest_width p k n ≡ t = cc d.1 in
    let high = ltb-false widest (smallest_width p k n) d.0 in
    let f = found p k n in (
      record { modulus = a.0; coefficients = b.0; batch = c.0 },
      record {
        low = omega (arith, f.low);
        high = omega arith;
        itself = ap (escapes p k n) (sym same) ∙ f.holds (omega arith);
        none_smaller = λ u l h. f.none_before u l (omega arith);
      },
    )

width_back : (p k n t : ℕ) → Open p k n × Smallest p k n t → choose_answer p k n ≡ answered t
unfolding none_cause
width_back p k n t (o, m) =
    let same : smallest_width p k n ≡ t = first-only (escapes p k n) widest 1 (smallest_width p k n) t (found p k n) (record { low = m.low; high = omega (arith, m.high); none_before = m.none_smaller; holds = λ h. m.itself }) in
    opened p k n o ∙ rw (same, le-ltb widest t m.high)

pub choose-width : (p k n t : ℕ) → (choose_answer p k n ≡ answered t) ↔ (Open p k n × Smallest p k n t)
choose-width p k n t = (width-forth p k n t, width_back p k n t)

-- 7 was given, so the search went past 63
gave-7 : (none : Bool) (t : ℕ) → (refuse none 7 0 and_then answered t) ≡ refused 7 0 → none ≡ true
gave-7 true t e = refl
gave-7 false t e = absurd (never 7 0 t (sym e))

none-forth : (p k n : ℕ) → choose_answer p k n ≡ refused 7 0 → Open p k n × ((t : ℕ) → 1 ≤ t → t ≤ widest → escapes p k n t ≡ false)
unfolding choose_answer none_cause
none-forth p k n e =
    let a = passed_over (modulus_cause p) 1 0 _ 7 0 (λ z. omega arith) e in
    let b = passed_over (length_cause k) 2 0 _ 7 0 (λ z. omega arith) a.1 in
    let c = passed_over (batch_cause n) 3 0 _ 7 0 (λ z. omega arith) b.1 in
    let past = ltb-true widest (smallest_width p k n) (gave-7 (none_cause p k n) (smallest_width p k n) c.1) in
    (record { modulus = a.0; coefficients = b.0; batch = c.0 }, λ t l h. (found p k n).none_before t l (omega arith))

none-back : (p k n : ℕ) → Open p k n × ((t : ℕ) → 1 ≤ t → t ≤ widest → escapes p k n t ≡ false) → choose_answer p k n ≡ refused 7 0
unfolding none_cause
none-back p k n (o, none) =
    let end : smallest_width p k n ≡ 64 = first-only (escapes p k n) widest 1 (smallest_width p k n) 64 (found p k n) (record { low = omega arith; high = omega arith; none_before = λ t l h. none t l (omega arith); holds = λ h. absurd (omega arith) }) in
    opened p k n o ∙ rw end

pub choose-none : (p k n : ℕ) → (choose_answer p k n ≡ refused 7 0) ↔ (Open p k n × ((t : ℕ) → 1 ≤ t → t ≤ widest → escapes p k n t ≡ false))
choose-none p k n = (none-forth p k n, none-back p k n)

neither-holds : (a b : Bool) → (not a && not b) ≡ true → (a ≡ false) × (b ≡ false)
neither-holds true b e = absurd (false≢true e)
neither-holds false true e = absurd (false≢true e)
neither-holds false false e = (refl, refl)

pub choose-accepted : (p k n t : ℕ) → choose_answer p k n ≡ answered t → setting_checks (setting_of p k t n) ≡ fine
unfolding setting_checks escapes
choose-accepted p k n t e =
    let (o, m) = width-forth p k n t e in
    let (narrow, room) = neither-holds (narrow_cause (setting_of p k t n)) (room_cause (setting_of p k t n)) m.itself in
    rw (o.modulus, o.coefficients, o.batch, range-passes 1 widest t m.low m.high, narrow, room)
