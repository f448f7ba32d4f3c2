-- `take_header` meets its contract. Assumes nothing.
use Rattle.std.proofs.Common.{ℕ, ◌≡◌, ◌+◌, ◌-◌, ◌≤◌, ◌<◌, sym, ap, ◌∙◌, List, ◌++◌, length, take, drop, arith, rules, lt-ltb}
use Rattle.polynomials.specs.Indices.{upto}
use Rattle.polynomials.specs.Lists.{coefficient}
use Rattle.packed.specs.declared.running.Record.{Record}
use Rattle.jobs.specs.Jobs.{header_bytes}
use Rattle.jobs.specs.States.{held_bytes, blank, heading, held_in, header_after}
use Rattle.jobs.specs.CompletingLaws.{Completing, begun-size, all-taken, complete, begun-back, begun-rest}
use Rattle.jobs.specs.declared.state.State.{State}
use Rattle.jobs.specs.declared.state.Stage.TheVariants as in_stage
use Rattle.jobs.proofs.header.take_header.Goals.{After-min-end}
use Rattle.jobs.proofs.header.take_header.Goals as goal

heading-after : (bs : List ℕ) → length bs < header_bytes → heading bs ≡ header_after bs
unfolding header_after
heading-after bs h = rw (lt-ltb (length bs) header_bytes h)

module _ (st : State) (piece : List ℕ) (end : ℕ) (f : Completing st piece header_bytes end) (array : List ℕ) (put : array ≡ upto held_bytes (coefficient (held_in st ++ take end piece))) where
  -- the header is not complete: all of the piece is held
  at_part : st.size + end < header_bytes → (r : Record) → r ≡ blank
      → record { stage = in_stage.Header; held = array; size = st.size + end; pairs = 0; running = r } ≡ header_after (held_in st ++ piece)
  at_part h r e = rw (all-taken st piece header_bytes end f h, put, e, ← begun-size st piece header_bytes end f) (heading-after (held_in st ++ take end piece) (omega (arith, begun-size st piece header_bytes end f)))

  module _ (full : header_bytes ≤ st.size + end) where
    front : take header_bytes array ≡ held_in st ++ take end piece
    front = begun-back st piece header_bytes end f array header_bytes put (sym (complete st piece header_bytes end f full))

    front-size : length (take header_bytes array) ≡ header_bytes
    front-size = ap length front ∙ complete st piece header_bytes end f full

    at-full : (r : State) → r ≡ header_after (take header_bytes array ++ take (length piece - end) (drop end piece)) → r ≡ header_after (held_in st ++ piece)
    at-full r e = e ∙ ap header_after (ap (λ (l : List ℕ). l ++ take (length piece - end) (drop end piece)) front ∙ begun-rest st piece header_bytes end f)

first : (c : After-min-end) → Completing c.args.state c.args.piece.now header_bytes c.min-end.result
first c = record { short = c.requires; room = omega arith; array = search rules; most = c.min-end.ensures }

pub returns-then-size-end-lt-HEADER_SIZE : goal.returns-then-size-end-lt-HEADER_SIZE
returns-then-size-end-lt-HEADER_SIZE c = at_part _ _ _ (first (goal.at.returns-then-size-end-lt-HEADER_SIZE c).After-min-end) _ c.joined-header.ensures c.if-size-end-lt-HEADER_SIZE.true _ c.blank.ensures

pub returns : goal.returns
returns c =
    at-full _ _ _ (first (goal.at.returns c).After-min-end) _ c.joined-header.ensures c.if-size-end-lt-HEADER_SIZE.false _ (rw c.copy_from_slice.ensures.after at c.«open».ensures)
