-- `add_fields` meets its contract: after i turns the first i fields are added, and the rest of the word is what stands from the next one on. No
-- sum is above all of them together. Assumes nothing.
use Rattle.std.proofs.Common.{ℕ, ◌≡◌, refl, ◌+◌, ◌*◌, ◌/◌, ◌%◌, ◌^◌, ◌<◌, List, length, ap, ◌∙◌, arith, length-set, pow-add, Fits, w64}
use Rattle.std.proofs.lemmas.Nat.{one_shl}
use Rattle.polynomials.specs.Lists.{coefficient}
use Rattle.polynomials.specs.Places.{packed, field, fields}
use Rattle.polynomials.specs.PlaceLaws.{packed-next, packed-fewer, packed-one, one_power, field_next}
use Rattle.polynomials.specs.Blocks.{raised}
use Rattle.polynomials.specs.BlockLaws.{packed-raised}
use Rattle.packed.proofs.columns.add_fields.Invariants.{Turn}
use Rattle.packed.proofs.columns.add_fields.Goals as goal

module _ (t m word at : ℕ) (old sums : List ℕ) (rest i r : ℕ) (inv : Turn t word at old sums rest r) (here : i ≡ at + r) (more : r < m) where
  this : rest % 2 ^ t ≡ field (2 ^ t) word r
  this = rw inv.above

  -- one field more
  turned : i < length sums → (b : ℕ) → packed b (raised sums i (rest % 2 ^ t)) ≡ packed b old + packed b (fields (2 ^ t) (r + 1) word) * b ^ at
  turned room b =
      packed-raised b sums i (rest % 2 ^ t) room
      ∙ rw (this, here, inv.added b, packed-next b (field (2 ^ t) word) r, pow-add) (omega arith)

  -- and no sum is above what there is with all of them
  fits : packed 1 old + packed 1 (fields (2 ^ t) m word) < 2 ^ 64 → Fits w64 (coefficient sums i + rest % 2 ^ t)
  fits all =
      let one : 1 ^ at ≡ 1 = one_power at in
      let one2 : 1 ^ r ≡ 1 = one_power r in
      let added : packed 1 sums ≡ packed 1 old + packed 1 (fields (2 ^ t) r word) * 1 = rw one at (inv.added 1) in
      let next : packed 1 (fields (2 ^ t) (r + 1) word) ≡ packed 1 (fields (2 ^ t) r word) + field (2 ^ t) word r * 1 = rw one2 at (packed-next 1 (field (2 ^ t) word) r) in
      record { fits = omega (arith, packed-one sums i, this, packed-fewer 1 (field (2 ^ t) word) (r + 1) m (omega arith)) }

pub overflow_add-sums-in-loop-i : goal.overflow_add-sums-in-loop-i
overflow_add-sums-in-loop-i c =
    let a = c.args in
    let l = c.loop-i in
    rw (one_shl a.t 64 c.requires.0) (fits a.t a.m a.word a.at a.sums.now l.sums l.rest (a.at + l.i) l.i l.invariant refl (omega arith) c.requires.2)

pub loop-i-preserved : goal.loop-i-preserved
loop-i-preserved c =
    let a = c.args in
    let l = c.loop-i in
    rw (one_shl a.t 64 c.requires.0)
    (record {
      size = simp length-set l.invariant.size;
      above = ap (λ (n : ℕ). n / 2 ^ a.t) l.invariant.above ∙ field_next (2 ^ a.t) a.word l.i;
      added = turned a.t a.m a.word a.at a.sums.now l.sums l.rest (a.at + l.i) l.i l.invariant refl (omega arith) (omega (arith, c.requires.1, l.invariant.size));
    })
