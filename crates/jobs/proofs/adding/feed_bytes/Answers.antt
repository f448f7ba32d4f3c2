-- `feed_bytes` meets its contract: what is before the bytes that are left is fed. Assumes nothing.
use Rattle.std.proofs.Common.{◌≡◌, ℕ, ◌+◌, ◌-◌, ◌*◌, ◌/◌, ◌≤◌, min, refl, sym, ap, ◌∙◌, List, ◌++◌, length, take, drop, arith, rules, length-append, length-drop, take_at, drop_at, drop-drop}
use Rattle.std.specs.Slice.Iter.{chunks_rest, chunks_size}
use Rattle.jobs.specs.AddingLaws.{k-some, k_few}
use Rattle.jobs.specs.FeedLaws.{block_bytes, some_block, bytes-fed-none, fed-block-fits, bytes-fed-more, block-bytes-most}
use Rattle.jobs.proofs.adding.feed_bytes.Goals.{In-Some}
use Rattle.jobs.proofs.adding.feed_bytes.Goals as goal

-- a block comes off the front of what is left, and stands there in all of the bytes
record Next (bs left block : List ℕ) (most : ℕ) (rest : List ℕ) : Type 0 where
  next : length bs - length left + length block ≡ length bs - length rest
  many : length block ≡ min most (length bs - (length bs - length left))
  block-is : block ≡ take (length block) (drop (length bs - length left) bs)
  rest-is : rest ≡ drop (length bs - length rest) bs

next_of : (bs left block rest : List ℕ) (most : ℕ) → left ≡ drop (length bs - length left) bs → left ≡ block ++ rest → length block ≡ min most (length left) → Next bs left block most rest
next_of bs left block rest most is parts size =
    let at : ℕ = length bs - length left in
    let sum : length left ≡ length block + length rest = ap length parts ∙ length-append block rest in
    let few : length left ≤ length bs = omega (arith, ap length is, length-drop at bs) in
    let more : at + length block ≡ length bs - length rest = omega (arith, sum, few) in
    let all : length bs - at ≡ length left = omega (arith, few) in
    let here : drop at bs ≡ block ++ rest = sym is ∙ parts in
    record {
      next = more;
      many = rw all size;
      block-is = sym (ap (take (length block)) here ∙ take_at block rest (length block) refl);
      rest-is = sym (ap (λ (n : ℕ). drop n bs) (sym more) ∙ sym (drop-drop (length block) at bs) ∙ ap (drop (length block)) here ∙ drop_at block rest (length block) refl);
    }

pub nonzero_div-most : goal.nonzero_div-most
nonzero_div-most c = k-some c.args.running.setting c.args.running.sum c.requires.coherent

pub pair_bytes-requires : goal.pair_bytes-requires
pair_bytes-requires c = k_few c.args.running.setting c.args.running.sum c.requires.coherent

pub overflow_mul-most : goal.overflow_mul-most
overflow_mul-most c = rw c.pair_bytes.ensures (record { fits = omega (arith, block-bytes-most c.args.running.setting.k) })

pub chunks-block-items-requires : goal.chunks-block-items-requires
chunks-block-items-requires c = rw c.pair_bytes.ensures (some_block c.args.running.setting c.args.running.sum c.args.bytes.now c.requires)

pub loop-block-init-derived : goal.loop-block-init-derived
loop-block-init-derived c =
    let some = some_block c.args.running.setting c.args.running.sum c.args.bytes.now c.requires in
    search rules

pub loop-block-init : goal.loop-block-init
loop-block-init c =
    let bs = c.args.bytes.now in
    let size : chunks_size c.into_iter-block-iterator.result ≡ 2048 / c.args.running.setting.k * c.pair_bytes.result = search rules in
    let all : chunks_rest c.into_iter-block-iterator.result ≡ bs = search rules in
    let none : length bs - length bs ≡ 0 = omega arith in
    (rw c.pair_bytes.ensures at size, rw (all, none), rw (all, none) (bytes-fed-none c.args.running.setting c.args.running.sum bs c.requires))

next_at : (c : In-Some) → Next c.args.bytes.now (chunks_rest c.loop-block.block-iterator) c.in-Some.block.now (block_bytes c.args.running.setting.k) (chunks_rest c.next.new.self)
next_at c =
    let i = c.loop-block.invariant in
    let steps = c.in-Some.ensures.steps in
    next_of _ _ _ _ _ i.1 steps.1.0 (rw i.0 at steps.1.1)

pub feed_block-fed-requires : goal.feed_block-fed-requires
feed_block-fed-requires c =
    let n = next_at c in
    rw (← n.block-is) at (fed-block-fits c.args.running.setting c.args.running.sum c.args.bytes.now c.requires c.loop-block.fed _ (length c.in-Some.block.now) c.loop-block.invariant.2 n.many)

pub loop-block-preserved : goal.loop-block-preserved
loop-block-preserved c =
    let n = next_at (goal.at.loop-block-preserved c).In-Some in
    let e = c.feed_block-fed.ensures in
    let fed = bytes-fed-more c.args.running.setting c.args.running.sum c.args.bytes.now c.requires c.loop-block.fed _ (length c.in-Some.block.now) c.loop-block.invariant.2 n.many c.feed_block-fed.result (rw n.block-is at e) in
    (c.in-Some.ensures.steps.0 ∙ c.loop-block.invariant.0, n.rest-is, rw n.next at fed)
