-- `put_size` cuts doubles between -1 and 2^64 only. The tests have these ends by their bits, what is asked has them as numbers. Assumes nothing.
use Rattle.std.proofs.Common.{T, sym, subst}
use lib.Ieee.{of_bits, neg}
use Rattle.calc.proofs.reals.put_size.Goals as goal

pub truncating_f64_to_u64-whole-requires : goal.truncating_f64_to_u64-whole-requires
unfolding of_bits neg
truncating_f64_to_u64-whole-requires c = record {
  lower_bound = subst T (sym c.if-x.true) tt;
  upper_bound = subst T (sym c.if-x-2.true) tt;
}
