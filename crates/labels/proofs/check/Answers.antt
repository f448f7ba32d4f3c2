-- `check` meets its contract: the words, the last first, are the label's polynomial. Assumes nothing.
use Rattle.std.proofs.Common.{ℕ, List, reverse, length, sym, ap, ◌∙◌, length-take-le}
use Rattle.std.proofs.lemmas.List.{length-reverse}
use Rattle.std.proofs.Math.Seq.{take_at}
use Rattle.divisions.specs.ReverseLaws.{reverse-below}
use Rattle.labels.specs.Working.{Polynomial}
use Rattle.labels.specs.CheckLaws.{Readable, read-passed, count_most}
use Rattle.labels.proofs.check.Goals.{After-check_label}
use Rattle.labels.proofs.check.Goals as goal

polynomial : (words : List ℕ) (s : ℕ) → Readable s words → Polynomial (reverse words)
polynomial words s r = record { below = reverse-below _ words r.below; few = rw (length-reverse words) r.few }

pub slice_bounds-polynomial-end : goal.slice_bounds-polynomial-end
slice_bounds-polynomial-end c = (read-passed c.args.level c.args.words.now (sym c.in_ok-check_label.ensures)).few

pub slice_bounds-turn-end : goal.slice_bounds-turn-end
slice_bounds-turn-end c = sym (length-take-le _ _ (read-passed c.args.level c.args.words.now (sym c.in_ok-check_label.ensures)).few)

pub turn-requires : goal.turn-requires
turn-requires c = length-take-le _ _ (read-passed c.args.level c.args.words.now (sym c.in_ok-check_label.ensures)).few

pub check_count-requires : goal.check_count-requires
check_count-requires c = (read-passed c.args.level c.args.words.now (sym c.in_ok-check_label.ensures)).level

pub vanishes-requires : goal.vanishes-requires
vanishes-requires c =
    let r = read-passed c.args.level c.args.words.now (sym c.in_ok-check_label.ensures) in (
      rw c.check_count.ensures (count_most c.args.level r.level),
      rw (take_at c.turn.new.out _ _ (ap length c.turn.ensures ∙ length-reverse c.args.words.now), c.turn.ensures) (polynomial c.args.words.now c.args.level r),
    )
