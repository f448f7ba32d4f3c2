-- `feed_bytes` meets its contract: what is before the bytes that are left is fed. Assumes nothing.
use Rattle.std.proofs.Common.{◌≡◌, ◌-◌, length, drop}
use Rattle.std.specs.Slice.Iter.{chunks_rest, chunks_size}
use Rattle.jobs.specs.FeedLaws.{block_bytes, BytesFed}
use Rattle.jobs.proofs.adding.feed_bytes.Given as goal

abbrev pub invariant-loop-block : goal.invariant-loop-block
invariant-loop-block l =
    let left = chunks_rest l.block-iterator in
    (chunks_size l.block-iterator ≡ block_bytes l.initial.fed.setting.k)
    × (left ≡ drop (length l.bytes - length left) l.bytes)
    × BytesFed l.initial.fed.setting l.initial.fed.sum l.bytes l.fed (length l.bytes - length left)
