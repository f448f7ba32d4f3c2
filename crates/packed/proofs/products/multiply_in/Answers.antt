-- `multiply_in` meets its contract. Assumes nothing.
use Rattle.std.proofs.Common.{refl}
use Rattle.packed.specs.GatherLaws.{blocks-lie, sums-written}
use Rattle.packed.proofs.products.multiply_in.Goals as goal

pub gather-requires : goal.gather-requires
gather-requires c = let a = c.args in blocks-lie a.s.setting a.a.now a.b.now a.out.now a.xs.now a.ys.now a.sums.now c.requires.0 c.requires.1 c.rounded_up.result c.rounded_up-2.result c.rounded_up.ensures c.rounded_up-2.ensures c.pack_blocks.ensures c.pack_back.ensures

pub returns : goal.returns
returns c = let a = c.args in (refl, sums-written a.s.setting a.a.now a.b.now a.out.now a.xs.now a.ys.now a.sums.now c.requires.0 c.requires.1 c.rounded_up.result c.rounded_up-2.result c.rounded_up.ensures c.rounded_up-2.ensures c.gather.ensures.1 c.write_remainders.ensures)
