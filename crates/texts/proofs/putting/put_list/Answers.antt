-- `put_list` meets its promise: after each turn the numbers so far stand. Assumes nothing.
use Rattle.std.proofs.Common.{[], ◌∷◌, map, take, take_all}
use Rattle.std.proofs.lemmas.List.{map_more}
use Rattle.texts.specs.PuttingLaws.{puts-on, puts-join, puts-spaced}
use Rattle.texts.proofs.putting.put_list.Goals as goal

pub loop-n-init : goal.loop-n-init
loop-n-init g c = puts-on c.put-next.ensures

pub loop-n-preserved : goal.loop-n-preserved
loop-n-preserved g c =
    let l = c.loop-n in
    let ns = c.args.ns.now in
    let more = map_more g.T.Whole.value ns l.n-index c.n-item.result c.loop-n-test.true in
    rw (more, ← c.n-item.is, ← c.value.ensures) (puts-spaced (map g.T.Whole.value (take l.n-index ns)) (c.value.result ∷ []) l.invariant c.put_spaced-next.ensures)

pub returns : goal.returns
returns g c =
    puts-join c.put-next.ensures (rw (take_all c.loop-n.n-index c.args.ns.now c.loop-n-test.false) at c.loop-n.invariant)
