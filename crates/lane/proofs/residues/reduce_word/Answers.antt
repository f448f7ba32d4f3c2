-- `reduce_word` meets its contract: w is the word of the m from i on, and above is u_i. Assumes nothing.
use Rattle.doubles.specs.Exactly.{held_number, held_whole}
use Rattle.lane.specs.ResidueLaws.{dividing, reduced-none, place-starts, next-times, next-correcting, next-plus, next-reduced}
use Rattle.lane.proofs.residues.reduce_word.Goals as goal

pub float_to_int-word : goal.float_to_int-word
float_to_int-word c = rw (held_whole c.requires.exact) tt

pub quotient-whole-requires : goal.quotient-whole-requires
quotient-whole-requires c = dividing c.requires

pub float_to_int-whole : goal.float_to_int-whole
float_to_int-whole c = rw (held_whole c.quotient-whole.ensures) tt

pub loop-i-init : goal.loop-i-init
loop-i-init c = reduced-none c.requires

pub shifted_residue-u-requires : goal.shifted_residue-u-requires
shifted_residue-u-requires c = (place-starts c.requires c.loop-i.invariant c.loop-i-test.true, held_number c.quotient-whole.ensures)

pub times-requires : goal.times-requires
times-requires c = next-times c.requires c.loop-i.invariant c.loop-i-test.true

pub corrected-requires : goal.corrected-requires
corrected-requires c = next-correcting c.requires c.loop-i.invariant c.loop-i-test.true c.shifted_residue-u.ensures

pub plus-w-requires : goal.plus-w-requires
plus-w-requires c = next-plus c.requires c.loop-i.invariant c.loop-i-test.true c.shifted_residue-u.ensures c.times.ensures c.corrected.ensures

pub loop-i-preserved : goal.loop-i-preserved
loop-i-preserved c = next-reduced c.requires c.loop-i.invariant c.loop-i-test.true c.shifted_residue-u.ensures c.times.ensures c.corrected.ensures c.plus-w.ensures
