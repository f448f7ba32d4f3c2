-- Demand 3: what any list of calls of feed makes of a fresh record, and what closing then gives. Assumes nothing; it names promises, and no function.
--     Demand3 s cs z          what demand 3 says of the record z after the pairs cs, and of closing it
--     demand-3                and that it holds, however the pairs are cut into calls
--     open-word               the open word is the packed sum of the open batch, and its fields are the coefficients of that sum
--     any_order               neither order nor cutting matters to closing
use Rattle.std.specs.Prelude.{ℕ, ◌/◌, ◌%◌, ◌≡◌, List, [], ◌∷◌, ◌++◌, length, Result}
use Rattle.std.proofs.Common.{sym, ap, ◌∙◌, append-nil, append_assoc, arith}
use mathlib.Core.List.{Perm}
use Rattle.std.proofs.Math.Nat.{zero-div}
use Rattle.polynomials.specs.Indices.{upto, rounded_up}
use Rattle.polynomials.specs.IndexLaws.{upto-same}
use Rattle.polynomials.specs.Lists.{coefficient, Pair, Pairs, sum_of_products}
use Rattle.polynomials.specs.Places.{packed, field}
use Rattle.polynomials.specs.Pairs.{open_batch}
use Rattle.polynomials.specs.PairLaws.{pairs-join, sums-order, length-order}
use Rattle.settings.specs.Answers.{answered, Verdict, fine, refuse, ◌and_then◌}
use Rattle.settings.specs.SharedAnswers.{short_cause}
use Rattle.settings.specs.Settings.{setting_checks, base, places}
use Rattle.packed.specs.Taken.{taken, taken-length}
use Rattle.packed.specs.Running.{Coherent, closing_at, fed_pairs, close_checks, record_of, Freshens, Closes}
use Rattle.packed.specs.Calls.{Call, Calls, lefts, rights, schoolbook, ClosesTo, sum_of}
use Rattle.packed.specs.FedPairs.{fed_sum, fed-operands}
use Rattle.packed.specs.RunningChecks.{Told, feed-told, close-pass}
use Rattle.packed.specs.Joining.{fresh-coherent, fed-coherent, joined-pairs}
use Rattle.packed.specs.SumOfPairs.{batch-fields, parts-operands, rest-few, closing-sum, sum_more, sum-none}
use Rattle.settings.specs.declared.setting.Setting.{Setting}
use Rattle.packed.specs.declared.running.Record.{Record}
use Rattle.packed.specs.declared.running.Begun.{Begun}
use Rattle.settings.specs.Refusals.{says-once}
use Rattle.settings.specs.declared.refusals.Refusal.{Refusal}

pub record Demand3 (s : Setting) (cs : List Pair) (z : Record) : Type 0 where
  -- the record: residues of the full batches, unreduced sum of the rest, number of pairs
  pub after : z ≡ record_of s (sum_of s cs)
  -- closing: the schoolbook sum modulo p, and as many reductions as there are batches
  pub closing : (old new : List ℕ) (a : Result ℕ Refusal) → Closes z old a new → ClosesTo s cs old a new

-- what holds of a record that calls have reached
record Reached (s : Setting) (cs : List Pair) (z : Record) : Type 0 where
  is : z ≡ record_of s (sum_of s cs)
  coherent : Coherent s z.sum
  operands : Pairs s.p s.k cs

module _ (s : Setting) (ok : setting_checks s ≡ fine) where
  no_pairs : fed_pairs s [] [] ≡ []
  no_pairs = let none : length (taken s.p []) / s.k ≡ 0 = rw (taken-length s.p []) (zero-div s.k) in rw none

  reached : (cs : List Pair) (r : Record) → Reached s cs r → (calls : List Call) (z : Record) → Calls r calls z → Reached s (cs ++ fed_pairs s (lefts calls) (rights calls)) z
  reached cs r h [] z e = rw (no_pairs, append-nil cs, ← e) h
  reached cs r h (c ∷ calls) z e =
      let told : Told (record_of s (sum_of s cs)) c.left c.right c.gave = rw h.is at (feed-told r c.left c.right c.gave e.0 e.1) in
      let ds : List Pair = fed_pairs s c.left c.right in
      let pd : Pairs s.p s.k ds = fed-operands s c.left c.right told.could.left_below told.could.right_below in
      let sum : fed_sum s (sum_of s cs) c.left c.right ≡ sum_of s (cs ++ ds) = sum_more s ok cs ds h.operands pd in
      let next : Reached s (cs ++ ds) c.gave.running = record {
        is = told.after ∙ ap (record_of s) sum;
        coherent = rw told.after (fed-coherent s (sum_of s cs) c.left c.right told.could);
        operands = pairs-join s.p s.k cs ds h.operands pd;
      } in
      let all : cs ++ (ds ++ fed_pairs s (lefts calls) (rights calls)) ≡ cs ++ fed_pairs s (c.left ++ lefts calls) (c.right ++ rights calls) = rw (joined-pairs s (sum_of s cs) c.left c.right (lefts calls) (rights calls) told.could) in
      rw (append_assoc cs ds (fed_pairs s (lefts calls) (rights calls)), all) at (reached (cs ++ ds) c.gave.running next calls z e.2)

  module _ (b : Begun) (begun : Freshens s b) (calls : List Call) (z : Record) (fed : Calls b.running calls z) where
    abbrev cs : List Pair
    cs = fed_pairs s (lefts calls) (rights calls)

    arrived : Reached s cs z
    arrived =
        let start : Reached s [] b.running = record {
          is = begun.1 ∙ ap (record_of s) (sym (sum-none s ok));
          coherent = rw begun.1 (fresh-coherent s ok);
          operands = tt;
        } in
        reached [] b.running start calls z fed

    passes : (len : ℕ) → close_checks z len ≡ refuse (short_cause (places s) len) 10 0
    passes len = rw arrived.is (close-pass (record_of s (sum_of s cs)) len (rw arrived.is at arrived.coherent))

    closing-is : upto (places z.setting) (closing_at z.setting z.sum) ≡ schoolbook s cs
    closing-is = rw arrived.is (closing-sum s ok cs arrived.operands)

    reductions-are : rounded_up z.sum.total z.setting.n ≡ rounded_up (length cs) s.n
    reductions-are = rw arrived.is

    pub demand-3 : Demand3 s cs z
    demand-3 = record {
      after = arrived.is;
      closing = λ old new a h. (rw (passes (length old), reductions-are) at h.0, rw (passes (length old), closing-is) at h.1);
    }

    pub open-word : (z.sum.word ≡ packed (base s) (sum_of_products (open_batch s.n cs))) × ((j : ℕ) → field (base s) z.sum.word j ≡ coefficient (sum_of_products (open_batch s.n cs)) j)
    open-word = (
      rw arrived.is,
      λ j. rw arrived.is (batch-fields s ok (open_batch s.n cs) (parts-operands s ok cs arrived.operands).1 (omega (arith, rest-few s ok cs arrived.operands)) j),
    )

  pub any_order : (b d : Begun) → Freshens s b → Freshens s d → (calls others : List Call) (y z : Record) → Calls b.running calls y → Calls d.running others z
      → Perm (fed_pairs s (lefts calls) (rights calls)) (fed_pairs s (lefts others) (rights others)) → (old v w : List ℕ) (x u : Result ℕ Refusal) → Closes y old x v → Closes z old u w → (x ≡ u) × (v ≡ w)
  any_order b d hb hd calls others y z hy hz order old v w x u hx hu =
      let cs : List Pair = fed_pairs s (lefts calls) (rights calls) in
      let ds : List Pair = fed_pairs s (lefts others) (rights others) in
      let first : ClosesTo s cs old x v = (demand-3 b hb calls y hy).closing old v x hx in
      let second : ClosesTo s ds old u w = (demand-3 d hd others z hz).closing old w u hu in
      let sums : schoolbook s cs ≡ schoolbook s ds = upto-same (places s) (λ j. coefficient (sum_of_products cs) j % s.p) (λ j. coefficient (sum_of_products ds) j % s.p) (λ j l. rw (sums-order cs ds order j)) in
      let short : Verdict = refuse (short_cause (places s) (length old)) 10 0 in (
        says-once x u (short and_then answered (rounded_up (length ds) s.n)) (rw (length-order cs ds order) at first.0) second.0,
        first.1 ∙ rw sums (sym second.1),
      )
