-- `cut_product` meets its contract. Assumes nothing.
use Rattle.std.proofs.Common.{◌∙◌}
use Rattle.doubles.specs.Exactly.{held, may-hold}
use Rattle.lane.specs.QuotientLaws.{cut-asks, cut-is, cut_small}
use Rattle.lane.proofs.quotients.cut_product.Goals as goal

pub truncating_f64_to_u64-requires : goal.truncating_f64_to_u64-requires
truncating_f64_to_u64-requires c = record { lower_bound = (cut-asks c.requires).0; upper_bound = (cut-asks c.requires).1 }

pub int_to_float-result : goal.int_to_float-result
int_to_float-result c =
    let pre = c.requires in
    may-hold _ (rw (c.truncating_f64_to_u64.ensures ∙ cut-is pre) (cut_small pre))

pub returns : goal.returns
returns c =
    let pre = c.requires in
    rw (c.truncating_f64_to_u64.ensures ∙ cut-is pre) (held _ (cut_small pre))
