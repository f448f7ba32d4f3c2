-- `unused_cause` meets its contract: a byte from place size on is not zero exactly where one is above its bound. Assumes nothing.
use Rattle.std.proofs.Common.{ℕ, ◌≡◌, ◌≤◌, ◌<◌, ◌+◌, ◌-◌, refl, sym, ap, ◌∙◌, Bool, true, false, List, length, drop, arith, rules, lt-ltb, le-ltb, get_or-drop, length-drop}
use Rattle.std.proofs.Math.Decide.{dec_lt}
use Rattle.std.proofs.lemmas.Iterator.{YieldsList-from_slice, cases_from_any}
use Rattle.std.proofs.lemmas.Iterator.Adapters.{YieldsList-from_skip}
use borrow.Author.Tests.{tests}
use Rattle.std.specs.Bool.{MatchBool}
use Rattle.std.specs.List.{HoldsAt, AllWithin}
use Rattle.polynomials.specs.IndexLaws.{exceeds-none}
use Rattle.polynomials.specs.Lists.{coefficient}
use Rattle.jobs.specs.States.{held_most, unused_cause}
use Rattle.jobs.proofs.coherent.unused_cause.Goals as goal

module _ (size : ℕ) (held : List ℕ) (bytes : (j : ℕ) → coefficient held j ≤ 255) where
  some : (k : ℕ) → k < length (drop size held) → 0 < coefficient (drop size held) k → (b : Bool) → unused_cause size held ≡ b → true ≡ b
  some k l h true e = refl
  some k l h false e =
      let inside : size + k < length held = omega (arith, length-drop size held) in
      let most : coefficient held (size + k) ≤ held_most size (size + k) = (exceeds-none (length held) (coefficient held) (held_most size)).0 e (size + k) inside in
      let none : coefficient held (size + k) ≤ 0 = rw (le-ltb (size + k) size (omega arith)) at most in
      absurd (omega (arith, get_or-drop size held k 0))

  none : ((k : ℕ) → k < length (drop size held) → coefficient (drop size held) k ≡ 0) → unused_cause size held ≡ false
  none each = (exceeds-none (length held) (coefficient held) (held_most size)).1 (λ j l. go j l (dec_lt j size))
    where
      go : (j : ℕ) → j < length held → Dec (j < size) → coefficient held j ≤ held_most size j
      go j l (yes h) = rw (lt-ltb j size h) (bytes j)
      go j l (no h) =
          let place : size + (j - size) ≡ j = omega arith in
          let zero : coefficient held j ≡ 0 = ap (coefficient held) (sym place) ∙ sym (get_or-drop size held (j - size) 0) ∙ each (j - size) (omega (arith, length-drop size held)) in
          omega arith

  told : (r : Bool) → MatchBool r ((k : ℕ) × (k < length (drop size held)) × HoldsAt (λ x. 0 < x) (drop size held) k) (AllWithin (λ x. x ≡ 0) (drop size held) 0 (length (drop size held)))
      → r ≡ unused_cause size held
  told true m = some m.0 m.1 (m.2 0) (unused_cause size held) refl
  told false m = sym (none (λ k l. m k 0 (omega arith) l))

pub returns : goal.returns
returns c =
    told c.args.size c.args.held.now (λ j. omega (arith, c.type_inv.held j)) c.any.result
    (cases_from_any _ _ _ (λ x. 0 < x) (λ x. x ≡ 0) c.any.ensures.ran (YieldsList-from_skip c.args.size (YieldsList-from_slice c.args.held.now cc) cc) (λ x q k. search (rules, tests)) (λ x q k. search (rules, tests)))
