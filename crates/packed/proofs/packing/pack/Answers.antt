-- `pack` meets its promise. Assumes nothing.
use Rattle.std.proofs.Common.{ℕ, ◌≡◌, ◌<◌, refl, List, length, Some, None, Bool, true, false, ltb, sym, arith, lt_trans}
use Rattle.std.proofs.Math.Dec.{lit<}
use Rattle.std.proofs.lemmas.Option.{none-some}
use Rattle.polynomials.specs.Indices.{pick, found}
use Rattle.polynomials.specs.Lists.{Below}
use Rattle.settings.specs.Bounds.{bounds}
use Rattle.settings.specs.Coefficients.{first_bad, coefficient-check}
use Rattle.packed.specs.Taken.{taken, taken-operand}
use Rattle.packed.proofs.packing.pack.Goals as goal

-- past 8
good : (p : ℕ) (xs : List ℕ) → 0 < p → None ≡ found (first_bad p xs) (length xs) → Below p xs
good p xs some e = (coefficient-check p xs some).0 (rw (go (ltb (first_bad p xs) (length xs)) e))
  where
    go : (b : Bool) → None ≡ pick b (Some (first_bad p xs)) None → b ≡ false
    go true h = absurd (none-some (first_bad p xs) h)
    go false h = refl

pub pack_taken-requires : goal.pack_taken-requires
pack_taken-requires c =
    let a = c.args in
    let b = bounds a.s (sym c.in_ok-check.ensures) in
    let some : 0 < a.s.p = omega (arith, b.range.choice.p_low) in
    let fits = b.word_fits (taken a.s.p a.coefficients.now) (taken-operand a.s.p a.s.k a.coefficients.now (omega (arith, c.if-coefficients-s.false)) (good a.s.p a.coefficients.now some c.in_default.ensures)) in
    (some, omega (arith, b.range.t_high), lt_trans fits (lit< tt))
