-- `take_pairs` meets its contract. Assumes nothing.
use Rattle.std.proofs.Common.{ℕ, ◌≡◌, ◌+◌, ◌-◌, ◌≤◌, ◌<◌, refl, sym, ap, ◌∙◌, false, List, ◌++◌, length, take, drop, arith, rules}
use Rattle.polynomials.specs.Indices.{upto}
use Rattle.polynomials.specs.IndexLaws.{length-upto}
use Rattle.polynomials.specs.Lists.{coefficient}
use Rattle.jobs.specs.Jobs.{pair_bytes}
use Rattle.jobs.specs.States.{held_bytes, held_in, pairs_after}
use Rattle.jobs.specs.Adding.{Adding}
use Rattle.jobs.specs.AddingLaws.{k_few}
use Rattle.jobs.specs.CoherentLaws.{Waiting, adding-waits}
use Rattle.jobs.specs.CompletingLaws.{Completing, held-size, first-size, begun-size, begun-fits, all-taken, complete, begun-back, begun-rest}
use Rattle.jobs.specs.TakingLaws.{adds, came-adding, came-other}
use Rattle.jobs.specs.declared.state.State.{State}
use Rattle.jobs.specs.declared.state.Stage.{Stage}
use Rattle.jobs.specs.declared.state.Stage.TheVariants as in_stage
use Rattle.jobs.proofs.adding.take_pairs.Goals.{After-min-end, Start, Else-size-end}
use Rattle.jobs.proofs.adding.take_pairs.Goals as goal

module _ (st : State) (piece : List ℕ) (end : ℕ) (w : Waiting st) (f : Completing st piece (pair_bytes st.running.setting.k) end) (array : List ℕ) (put : array ≡ upto held_bytes (coefficient (held_in st ++ take end piece))) where
  abbrev whole : ℕ
  whole = pair_bytes st.running.setting.k

  abbrev after : List ℕ → State
  after bs = pairs_after st.running.setting st.running.sum st.pairs bs

  pair : take (st.size + end) array ≡ held_in st ++ take end piece
  pair = begun-back st piece whole end f array (st.size + end) put (sym (begun-size st piece whole end f))

  module _ (next : State) (got : next ≡ after (take (st.size + end) array)) where
    is : next ≡ after (held_in st ++ take end piece)
    is = got ∙ ap after pair

    at_part : st.size + end < whole → next ≡ after (held_in st ++ piece)
    at_part h = is ∙ ap after (sym (all-taken st piece whole end f h))

    module _ (full : whole ≤ st.size + end) where
      abbrev rest : List ℕ
      rest = take (length piece - end) (drop end piece)

      size : length (held_in st ++ take end piece) ≡ whole
      size = complete st piece whole end f full

      all : after ((held_in st ++ take end piece) ++ rest) ≡ after (held_in st ++ piece)
      all = ap after (begun-rest st piece whole end f)

      at_other : adds next.stage ≡ false → next ≡ after (held_in st ++ piece)
      at_other e = came-other st.running.setting st.running.sum st.pairs w.adding (held_in st ++ take end piece) rest size next is e ∙ all

      module _ (e : next.stage ≡ in_stage.Pairs) where
        more : Adding next.running.setting next.running.sum next.pairs
        more = (came-adding st.running.setting st.running.sum st.pairs w.adding (held_in st ++ take end piece) rest size next is e).0

        at-pairs : (r : State) → r ≡ pairs_after next.running.setting next.running.sum next.pairs rest → r ≡ after (held_in st ++ piece)
        at-pairs r h = h ∙ (came-adding st.running.setting st.running.sum st.pairs w.adding (held_in st ++ take end piece) rest size next is e).1 ∙ all

other : (stage : Stage) → (stage ≡ in_stage.Pairs → ⊥) → adds stage ≡ false
other in_stage.Header n = refl
other in_stage.Pairs n = absurd (n refl)
other (in_stage.Refused why) n = refl

waits : (c : Start) → Waiting c.args.state
waits c = adding-waits c.args.state c.requires

first : (c : After-min-end) → Completing c.args.state c.args.piece.now (pair_bytes c.args.state.running.setting.k) c.min-end.result
first c = record { short = (adding-waits c.args.state c.requires).short; room = omega (arith, k_few _ _ (adding-waits c.args.state c.requires).adding.coherent); array = search rules; most = rw c.pair_bytes-whole.ensures at c.min-end.ensures }

pub pair_bytes-whole-requires : goal.pair_bytes-whole-requires
pair_bytes-whole-requires c = k_few _ _ (waits (goal.at.pair_bytes-whole-requires c).Start).adding.coherent

pub slice_bounds-held-end : goal.slice_bounds-held-end
slice_bounds-held-end c = omega (arith, (first c).short, (first c).room, (first c).array)

pub slice_bounds-joined-end : goal.slice_bounds-joined-end
slice_bounds-joined-end c = sym (held-size _ _ _ _ (first (goal.at.slice_bounds-joined-end c).After-min-end))

pub joined-pair-requires : goal.joined-pair-requires
joined-pair-requires c = begun-fits _ _ _ _ (first (goal.at.joined-pair-requires c).After-min-end)

pub slice_bounds-pair-end : goal.slice_bounds-pair-end
slice_bounds-pair-end c = rw (c.joined-pair.ensures, length-upto held_bytes (coefficient (held_in c.args.state ++ take c.min-end.result c.args.piece.now))) (omega (arith, begun-fits _ _ _ _ (first (goal.at.slice_bounds-pair-end c).After-min-end), held-size _ _ _ _ (first (goal.at.slice_bounds-pair-end c).After-min-end), first-size _ _ _ _ (first (goal.at.slice_bounds-pair-end c).After-min-end)))

pub slice_bounds-add_bytes-end : goal.slice_bounds-add_bytes-end
slice_bounds-add_bytes-end c = sym (ap length (pair _ _ _ (waits (goal.at.slice_bounds-add_bytes-end c).Start) (first (goal.at.slice_bounds-add_bytes-end c).After-min-end) _ c.joined-pair.ensures) ∙ begun-size _ _ _ _ (first (goal.at.slice_bounds-add_bytes-end c).After-min-end))

pub add_bytes-next-requires : goal.add_bytes-next-requires
add_bytes-next-requires c = (waits (goal.at.add_bytes-next-requires c).Start).adding

pub returns-then-size-end : goal.returns-then-size-end
returns-then-size-end c = at_part _ _ _ (waits (goal.at.returns-then-size-end c).Start) (first (goal.at.returns-then-size-end c).After-min-end) _ c.joined-pair.ensures _ c.add_bytes-next.ensures (rw c.pair_bytes-whole.ensures at c.if-size-end.true)

full : (c : Else-size-end) → pair_bytes c.args.state.running.setting.k ≤ c.args.state.size + c.min-end.result
full c = rw c.pair_bytes-whole.ensures at c.if-size-end.false

pub add_bytes-requires : goal.add_bytes-requires
add_bytes-requires c =
    more _ _ _ (waits (goal.at.add_bytes-requires c).Start) (first (goal.at.add_bytes-requires c).After-min-end) _ c.joined-pair.ensures _ c.add_bytes-next.ensures (full (goal.at.add_bytes-requires c).Else-size-end) c.in-Pairs.is

pub returns-in-Pairs : goal.returns-in-Pairs
returns-in-Pairs c =
    at-pairs _ _ _ (waits (goal.at.returns-in-Pairs c).Start) (first (goal.at.returns-in-Pairs c).After-min-end) _ c.joined-pair.ensures _ c.add_bytes-next.ensures (full (goal.at.returns-in-Pairs c).Else-size-end) c.in-Pairs.is _ c.add_bytes.ensures

pub returns-in_default : goal.returns-in_default
returns-in_default c =
    at_other _ _ _ (waits (goal.at.returns-in_default c).Start) (first (goal.at.returns-in_default c).After-min-end) _ c.joined-pair.ensures _ c.add_bytes-next.ensures (full (goal.at.returns-in_default c).Else-size-end) (other _ c.in_default.not-Pairs)
