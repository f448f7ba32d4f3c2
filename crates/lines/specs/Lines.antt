-- A call that prints a piece of a line. What was printed is in no contract: none can speak of what a call of the C library has written.
--     Prints r                  the promise of such a call: it answers nothing
--     PrintsList lent left r    of one that is lent a list: it answers nothing, and leaves the list as it was
--     prints-once, prints-list-once
--                               each allows one answer, and one list, only
use Rattle.std.specs.Prelude.{◌≡◌, List}
use Rattle.std.proofs.Common.{sym, ◌∙◌}

abbrev pub Prints : Unit {0} → Type 0
Prints r = r ≡ tt

abbrev pub PrintsList : {A : Type 0} → List A → List A → Unit {0} → Type 0
PrintsList lent left r = Prints r × (left ≡ lent)

pub prints-once : (a b : Unit {0}) → Prints a → Prints b → a ≡ b
prints-once a b ha hb = ha ∙ sym hb

pub prints-list-once : {A : Type 0} (lent x y : List A) (a b : Unit {0}) → PrintsList lent x a → PrintsList lent y b → (a ≡ b) × (x ≡ y)
prints-list-once lent x y a b ha hb = (ha.0 ∙ sym hb.0, ha.1 ∙ sym hb.1)
