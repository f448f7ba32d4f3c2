-- `add_batch` meets its contract. Assumes nothing.
use Rattle.std.proofs.Common.{◌∙◌, arith}
use Rattle.packed.specs.FeedLaws.{multiplying, batch-full, batch-unfilled}
use Rattle.packed.proofs.batches.add_batch.Goals as goal

pub add_products-word-requires : goal.add_products-word-requires
add_products-word-requires c = multiplying c.requires

pub returns-then-held-s : goal.returns-then-held-s
returns-then-held-s c =
    let pre = c.requires in
    c.split_word.ensures ∙ batch-full pre c.add_products-word.ensures (omega (arith, c.if-held-s.true, pre.most))

pub returns : goal.returns
returns c = batch-unfilled c.requires c.add_products-word.ensures (λ e. omega (arith, c.if-held-s.false, e))
