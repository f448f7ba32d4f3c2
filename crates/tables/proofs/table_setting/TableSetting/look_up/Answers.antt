-- `look_up` meets its contract: at place i, rest and quotient are word and quotient from there on, and w is the word of the places below. Assumes nothing.
use Rattle.std.proofs.Common.{ℕ, ◌≡◌, ◌+◌, ◌-◌, ◌*◌, ◌/◌, ◌%◌, ◌^◌, ◌≤◌, ◌<◌, List, sym, ap, ◌∙◌, arith, add-one, mod-lt, mod-eq_of_lt, lt_of_le_of_lt, lt_of_lt_of_le, mul_comm, mul-le-mul_right}
use Rattle.std.proofs.Math.Nat.{pow-succ'}
use Rattle.std.proofs.Math.Pow.{pow-lt}
use Rattle.polynomials.specs.Indices.{upto}
use Rattle.polynomials.specs.Lists.{coefficient}
use Rattle.polynomials.specs.Places.{packed, shifted, looked_up}
use Rattle.polynomials.specs.PlaceLaws.{packed-next, packed-fewer, field_next, power-power}
use Rattle.polynomials.specs.ReductionLaws.{mul-mod, quotient-under, shifted-quotient}
use Rattle.polynomials.specs.TableLaws.{table-place}
use Rattle.settings.specs.Settings.{places}
use Rattle.settings.specs.declared.accepted.Accepted.{Accepted}
use Rattle.tables.specs.TableLaws.{square-most}
use Rattle.tables.proofs.table_setting.TableSetting.look_up.Invariants.{Turn}
use Rattle.tables.proofs.table_setting.TableSetting.look_up.Goals.{After-from}
use Rattle.tables.proofs.table_setting.TableSetting.look_up.Goals as goal

module _ {p t : ℕ} {held : List ℕ} {word rest quotient u weight w i : ℕ} (turn : Turn p t held word rest quotient u weight w i) where
  abbrev q : ℕ
  q = 2 ^ t

  -- where the turn looks up
  abbrev place : ℕ
  place = u + p * (rest / q - p * (quotient / q))

  next-rest : rest / q ≡ word / q ^ (i + 1)
  next-rest = ap (λ (n : ℕ). n / q) turn.rest-is ∙ field_next q word i

  next-quotient : quotient / q ≡ word / p / q ^ (i + 1)
  next-quotient = ap (λ (n : ℕ). n / q) turn.quotient_is ∙ field_next q (word / p) i

  -- p times the quotient is no more than the rest
  under : p * (quotient / q) ≤ rest / q
  under = rw (next-rest, next-quotient) (quotient-under p q word (i + 1))

  -- and what is left is the u of the place above
  above : rest / q - p * (quotient / q) ≡ shifted p q word (i + 1)
  above = rw (next-rest, next-quotient) (shifted-quotient p q word (i + 1))

  -- what is looked up stands among the p^2 entries
  inside : 0 < p → place < p * p
  inside h = rw (above, turn.u-is) (table-place p (shifted p q word i) (shifted p q word (i + 1)) (mod-lt _ h) (mod-lt _ h))

  found : coefficient held place ≡ looked_up p q held word i
  found = rw (above, turn.u-is, add-one)

  next-weight : weight * q % 2 ^ 64 ≡ q ^ (i + 1) % 2 ^ 64
  next-weight = rw (turn.weight_is, mul_comm (q ^ i % 2 ^ 64) q) (mul-mod q (q ^ i) (2 ^ 64) ∙ rw (add-one, pow-succ' q i))

  module _ (m : ℕ) (l : i < m) (last : (m - 1) * t < 64) where
    -- within the word, the weight of a place is the base to that power
    weighs : weight ≡ q ^ i
    weighs =
        let starts : i * t < 64 = lt_of_le_of_lt (mul-le-mul_right {m = i} {n = m - 1} t (omega arith)) last in
        let below : 2 ^ (i * t) < 2 ^ 64 = pow-lt {j = 64} starts in
        turn.weight_is ∙ mod-eq_of_lt (rw (power-power 2 t i) below)

    turned : w + coefficient held place * weight ≡ packed q (upto (i + 1) (looked_up p q held word))
    turned = rw (weighs, found, turn.w-is) (sym (packed-next q (looked_up p q held word) i))

    -- it has room: the word up to there is part of the word in all
    room : packed q (upto m (looked_up p q held word)) < 2 ^ 64 → w + coefficient held place * weight < 2 ^ 64
    room fits = rw turned (lt_of_le_of_lt (packed-fewer q (looked_up p q held word) (i + 1) m (omega arith)) fits)

p-pos : (s : Accepted) → 0 < s.setting.p
p-pos s = omega (arith, s.bounds.range.choice.p_low)

-- the last place starts within the word
last : (s : Accepted) → (places s.setting - 1) * s.setting.t < 64
last s =
    let same : places s.setting - 1 ≡ 2 * s.setting.k - 2 = omega arith in
    rw same s.bounds.last_place

pub overflow_sub-above : goal.overflow_sub-above
overflow_sub-above c = under c.loop.invariant

pub overflow_add-place : goal.overflow_add-place
overflow_add-place c =
    let s = c.args.self in
    record { fits = omega (arith, inside c.loop.invariant (p-pos s.accepted), square-most s.accepted.setting.p s.small) }

pub bounds-held-place : goal.bounds-held-place
bounds-held-place c = lt_of_lt_of_le (inside c.loop.invariant (p-pos c.args.self.accepted)) c.requires.0

-- what is looked up fits at its place, on top of the places below
added : (c : After-from) → c.loop.w + c.from.result * c.loop.weight < 2 ^ 64
added c =
    let s = c.args.self.accepted in
    rw c.from.ensures (room c.loop.invariant (places s.setting) (omega arith) (last s) c.requires.1)

pub overflow_mul-w : goal.overflow_mul-w
overflow_mul-w c = omega (arith, added c)

pub overflow_add-w : goal.overflow_add-w
overflow_add-w c = omega (arith, added c)

pub loop-preserved : goal.loop-preserved
loop-preserved c =
    let s = c.args.self.accepted in
    let turn = c.loop.invariant in
    record {
      rest-is = next-rest turn;
      quotient_is = next-quotient turn;
      u-is = above turn;
      weight_is = next-weight turn;
      w-is = rw c.from.ensures (turned turn (places s.setting) (omega arith) (last s));
    }

pub returns : goal.returns
returns c =
    let all : c.loop.counter ≡ places c.args.self.accepted.setting = omega arith in
    rw (← all) c.loop.invariant.w-is
