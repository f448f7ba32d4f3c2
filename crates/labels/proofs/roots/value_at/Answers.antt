-- `value_at` meets its contract: what the record gives at its close is the sum of coefficients times powers. Assumes nothing.
use Rattle.std.proofs.Common.{ℕ, List, length, replicate}
use Rattle.labels.specs.Labels.{most_words}
use Rattle.labels.specs.Working.{power_at}
use Rattle.labels.specs.RootLaws.{lent-filled, value-closed}
use Rattle.labels.proofs.roots.value_at.Goals as goal

-- the array before it is filled
abbrev blank : List ℕ
blank = replicate most_words 0

pub returns : goal.returns
returns c =
    let a = c.args.a.now in
    let f = c.fill_powers in
    let fresh = c.fresh in
    let feed = c.feed-fed in
    let close = c.close in
    let lent = lent-filled (length a) (power_at c.args.j) blank f.new.out c.requires.1.few f.ensures in
    value-closed a c.args.j c.requires.1 _ fresh.result feed.result close.result close.new.out lent fresh.ensures feed.ensures close.ensures
