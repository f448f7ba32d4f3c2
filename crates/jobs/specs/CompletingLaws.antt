-- What is held is made complete from a piece: so many bytes of it that there are as many as are wanted, or all of it. Assumes nothing.
--     Completing st piece want end     end bytes of the piece are taken for that
--     begun                            what is held, and they
--     held-size, first-size, begun-size, begun-fits
--                                      their numbers; there is room for them
--     all-taken, complete              where they are too few the whole piece is taken; else there are as many as are wanted
--     begun-back                       an array that they were put into gives them back
--     begun-rest                       they and the rest of the piece are what is held and the piece
use Rattle.std.specs.Prelude.{ℕ, ◌+◌, ◌-◌, ◌≤◌, ◌<◌, min, ◌≡◌, List, ◌++◌, length, take, drop}
use Rattle.std.proofs.Common.{sym, ap, ◌∙◌, append_assoc, arith, length-append, length-drop, take-append-drop, length-take-le, take_all}
use Rattle.polynomials.specs.Indices.{upto}
use Rattle.polynomials.specs.Lists.{coefficient}
use Rattle.jobs.specs.States.{held_bytes, blank, held_in}
use Rattle.jobs.specs.CoherentLaws.{held_back}
use Rattle.jobs.specs.declared.state.State.{State}
use Rattle.jobs.specs.declared.state.Stage.TheVariants as in_stage

pub record Completing (st : State) (piece : List ℕ) (want end : ℕ) : Type 0 where
  pub short : st.size < want
  pub room : want ≤ held_bytes
  pub array : length st.held ≡ held_bytes
  pub most : end ≡ min (want - st.size) (length piece)

module _ (st : State) (piece : List ℕ) (want end : ℕ) (f : Completing st piece want end) where
  abbrev pub begun : List ℕ
  begun = held_in st ++ take end piece

  pub held-size : length (held_in st) ≡ st.size
  held-size = length-take-le st.size st.held (omega (arith, f.short, f.room, f.array))

  pub first-size : length (take end piece) ≡ end
  first-size = length-take-le end piece (omega (arith, f.most))

  pub begun-size : length begun ≡ st.size + end
  begun-size = length-append (held_in st) (take end piece) ∙ omega (arith, held-size, first-size)

  pub begun-fits : length (held_in st) + length (take end piece) ≤ held_bytes
  begun-fits = omega (arith, held-size, first-size, f.short, f.most, f.room)

  pub all-taken : st.size + end < want → held_in st ++ piece ≡ begun
  all-taken h = ap (λ (l : List ℕ). held_in st ++ l) (sym (take_all end piece (omega (arith, f.most))))

  pub complete : want ≤ st.size + end → length begun ≡ want
  complete h = omega (arith, begun-size, f.short, f.most)

  pub begun-back : (held : List ℕ) (n : ℕ) → held ≡ upto held_bytes (coefficient begun) → n ≡ length begun → take n held ≡ begun
  begun-back held n put e = rw (put, e) (held_back in_stage.Header begun 0 blank (omega (arith, begun-size, f.short, f.most, f.room)))

  pub begun-rest : begun ++ take (length piece - end) (drop end piece) ≡ held_in st ++ piece
  begun-rest =
      let rest : take (length piece - end) (drop end piece) ≡ drop end piece = take_all (length piece - end) (drop end piece) (omega (arith, length-drop end piece)) in
      rw (rest, append_assoc (held_in st) (take end piece) (drop end piece), take-append-drop end piece)
