-- the reply of a lane's result: the literal 0.0 is the double of zero. Assumes nothing.
use Rattle.doubles.specs.Exactly.{zero_is}
use Rattle.exports.proofs.replies.LaneReplyFromResultF64Refusal.from.Goals as goal

pub returns-in-Err : goal.returns-in-Err
returns-in-Err c = rw (c.in-Err.is, c.number.ensures, c.place.ensures, zero_is)
