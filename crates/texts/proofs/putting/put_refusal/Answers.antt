-- `put_refusal` meets its promise. Assumes nothing.
use Rattle.std.proofs.Common.{[], ◌∷◌}
use Rattle.texts.specs.Putting.{refused_text}
use Rattle.texts.specs.PuttingLaws.{puts-join, puts-spaced}
use Rattle.texts.proofs.putting.put_refusal.Goals as goal

pub returns : goal.returns
unfolding refused_text
returns c =
    let why = c.args.why in
    puts-join c.put-number.ensures (puts-spaced (why.number ∷ []) (why.place ∷ []) c.put_spaced-place.ensures c.put_spaced.ensures)
