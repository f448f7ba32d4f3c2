-- Demand 3 in definitions: calls of feed, and what the record and closing are after them. Definitions only; DemandThree shows that it holds.
--     Call, Calls r calls z         calls of feed, one after the other, from the record r to z, none refused: what each was given and what it gave
--     Asked r calls z               the same of calls that may be refused: each keeps feed's promise on the record that the one before it gave
--     AtPairs k calls               each call was given whole pairs, so that the calls cut their list at pairs
--     lefts, rights                 all that the calls were given, as two flat lists
--     schoolbook s cs               the schoolbook sum of the pairs' products modulo p, its 2k-1 coefficients
--     ClosesTo s cs old a after     what demand 3 says of closing: that sum, and pairs / n, rounded up, as the number of reductions; 10 alone can refuse
--     sum_of s cs                    what demand 3 says of the record: residues of full batches, unreduced sum of the rest, number of pairs
use Rattle.std.specs.Prelude.{ℕ, ◌%◌, ◌≡◌, false, List, [], ◌∷◌, ◌++◌, length, Result}
use Rattle.polynomials.specs.Indices.{upto, rounded_up}
use Rattle.polynomials.specs.Lists.{coefficient, Pair, sum_of_products}
use Rattle.polynomials.specs.Places.{packed}
use Rattle.polynomials.specs.Pairs.{full_batches, open_batch}
use Rattle.settings.specs.Limits.{residue_places}
use Rattle.settings.specs.Answers.{answered, Verdict, refuse, refuses, ◌and_then◌, left_by}
use Rattle.settings.specs.SharedAnswers.{short_cause}
use Rattle.settings.specs.Settings.{base, places}
use Rattle.packed.specs.Running.{Feeds}
use Rattle.settings.specs.declared.setting.Setting.{Setting}
use Rattle.packed.specs.declared.running.Sum.{Sum}
use Rattle.packed.specs.declared.running.Record.{Record}
use Rattle.settings.specs.Refusals.{says}
use Rattle.settings.specs.declared.refusals.Refusal.{Refusal}
use Rattle.packed.specs.declared.running.Fed.{Fed}

pub record Call : Type 0 where
  pub left : List ℕ
  pub right : List ℕ
  pub gave : Fed

abbrev pub Calls : Record → List Call → Record → Type 0
Calls r [] z = r ≡ z
Calls r (c ∷ cs) z = Feeds r c.left c.right c.gave × (refuses (says c.gave.answer) ≡ false) × Calls c.gave.running cs z

abbrev pub Asked : Record → List Call → Record → Type 0
Asked r [] z = r ≡ z
Asked r (c ∷ cs) z = Feeds r c.left c.right c.gave × Asked c.gave.running cs z

abbrev pub AtPairs : ℕ → List Call → Type 0
AtPairs k [] = Unit {0}
AtPairs k (c ∷ cs) = (length c.left ≡ length c.right) × (length c.left % k ≡ 0) × AtPairs k cs

abbrev pub lefts : List Call → List ℕ
lefts [] = []
lefts (c ∷ cs) = c.left ++ lefts cs

abbrev pub rights : List Call → List ℕ
rights [] = []
rights (c ∷ cs) = c.right ++ rights cs

abbrev pub schoolbook : Setting → List Pair → List ℕ
schoolbook s cs = upto (places s) (λ j. coefficient (sum_of_products cs) j % s.p)

abbrev pub ClosesTo : Setting → List Pair → List ℕ → Result ℕ Refusal → List ℕ → Type 0
ClosesTo s cs old a after =
    let short : Verdict = refuse (short_cause (places s) (length old)) 10 0 in
    (says a ≡ (short and_then answered (rounded_up (length cs) s.n))) × (after ≡ left_by short (schoolbook s cs) old)

abbrev pub sum_of : Setting → List Pair → Sum
sum_of s cs = record {
  total = length cs;
  word = packed (base s) (sum_of_products (open_batch s.n cs));
  residues = upto residue_places (λ j. coefficient (sum_of_products (full_batches s.n cs)) j % s.p);
}
