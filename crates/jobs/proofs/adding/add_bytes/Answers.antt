-- `add_bytes` meets its contract. Assumes nothing.
use Rattle.std.proofs.Common.{ℕ, ◌≡◌, ◌+◌, ◌-◌, ◌*◌, ◌≤◌, ◌<◌, min, refl, sym, ◌∙◌, Bool, true, false, List, length, take, drop, Some, None, ltb, append-nil, mul-le-mul, arith, length-take, length-drop, take_all, lt-ltb, le-ltb, ltb-true}
use Rattle.std.proofs.Math.Decide.{dec_lt}
use Rattle.std.proofs.lemmas.Option.{none-some}
use Rattle.polynomials.specs.Indices.{pick, upto}
use Rattle.polynomials.specs.Lists.{coefficient}
use Rattle.settings.specs.Answers.{fine}
use Rattle.settings.specs.Coefficients.{first_bad, FindsBad}
use Rattle.packed.specs.Running.{record_of}
use Rattle.settings.specs.declared.setting.Setting.{Setting}
use Rattle.packed.specs.declared.running.Sum.{Sum}
use Rattle.packed.specs.declared.running.Record.{Record}
use Rattle.jobs.specs.Jobs.{coefficients_in}
use Rattle.jobs.specs.States.{held_bytes, room, body_checks, whole_bytes, sum_after, settled, pairs_after}
use Rattle.jobs.specs.Adding.{Adding}
use Rattle.jobs.specs.ByteLaws.{length-coefficients_in}
use Rattle.jobs.specs.AddingLaws.{k-some, k_few}
use Rattle.jobs.specs.TakingLaws.{Fits, checks-fit, back-short, front-feedable, front-sum}
use Rattle.jobs.specs.declared.state.Stage.TheVariants as in_stage
use Rattle.jobs.proofs.adding.add_bytes.Goals.{After-first_bad, Else-room-bytes}
use Rattle.jobs.proofs.adding.add_bytes.Goals as goal

-- what an answer of the search says
found-some : (b : Bool) (i bad : ℕ) → Some bad ≡ pick b (Some i) None → (b ≡ true) × (bad ≡ i)
found-some true i bad e = (refl, cc)
found-some false i bad e = absurd (none-some bad (sym e))

found-none : (b : Bool) (i : ℕ) → None ≡ pick b (Some i) None → b ≡ false
found-none true i e = absurd (none-some i e)
found-none false i e = refl

module _ (s : Setting) (u : Sum) (pairs : ℕ) (a : Adding s u pairs) (bs : List ℕ) where
  module _ (end : ℕ) (ends : end ≡ min (room s u pairs) (length bs)) where
    abbrev cs : List ℕ
    cs = coefficients_in (take (room s u pairs) bs)

    same : take end bs ≡ take (room s u pairs) bs
    same = go (dec_lt (room s u pairs) (length bs))
      where
        go : Dec (room s u pairs < length bs) → take end bs ≡ take (room s u pairs) bs
        go (yes l) = let e : end ≡ room s u pairs = omega arith in rw e
        go (no l) = take_all end bs (omega arith) ∙ sym (take_all (room s u pairs) bs (omega arith))

    module _ (bad : ℕ) (finds : FindsBad s.p (coefficients_in (take end bs)) (Some bad)) where
      bad-at : (ltb (first_bad s.p cs) (length cs) ≡ true) × (bad ≡ first_bad s.p cs)
      bad-at = found-some (ltb (first_bad s.p cs) (length cs)) (first_bad s.p cs) bad (rw same at finds)

      bad-few : bad ≤ room s u pairs
      bad-few = omega (arith, ltb-true (first_bad s.p cs) (length cs) bad-at.0, bad-at.1, length-coefficients_in (take (room s u pairs) bs), length-take (room s u pairs) bs)

      at_8 : settled 8 (2 * s.k * u.total + bad) ≡ pairs_after s u pairs bs
      unfolding pairs_after body_checks
      at_8 = rw (bad-at.1, bad-at.0)

    module _ (finds : FindsBad s.p (coefficients_in (take end bs)) None) where
      none : ltb (first_bad s.p cs) (length cs) ≡ false
      none = found-none (ltb (first_bad s.p cs) (length cs)) (first_bad s.p cs) (rw same at finds)

      at-17 : room s u pairs < length bs → settled 17 0 ≡ pairs_after s u pairs bs
      unfolding pairs_after body_checks
      at-17 l = rw (none, lt-ltb (room s u pairs) (length bs) l)

      module _ (few : length bs ≤ room s u pairs) where
        passes : body_checks s u pairs bs ≡ fine
        unfolding body_checks
        passes = rw (none, le-ltb (room s u pairs) (length bs) few)

        fits : Fits s u pairs bs
        fits = checks-fit s u pairs a bs passes

        added : (held : List ℕ) (size : ℕ) (r : Record) → held ≡ upto held_bytes (coefficient (drop (whole_bytes s.k (length bs)) bs)) → size ≡ length (drop (whole_bytes s.k (length bs)) bs)
            → r ≡ record_of s (sum_after s u (take (whole_bytes s.k (length bs)) bs)) → record { stage = in_stage.Pairs; held = held; size = size; pairs = pairs; running = r } ≡ pairs_after s u pairs bs
        unfolding pairs_after
        added held size r eh es er = rw (passes, eh, es, er, front-sum s u pairs a bs fits)

-- what stands from a place on, as the code cuts it
rest-is : (n : ℕ) (bs : List ℕ) → take (length bs - n) (drop n bs) ≡ drop n bs
rest-is n bs = take_all (length bs - n) (drop n bs) (rw (length-drop n bs) (omega arith))

ends_at : (c : After-first_bad) → c.min-end.result ≡ min (room c.args.running.setting c.args.running.sum c.args.pairs) (length c.args.bytes.now)
ends_at c = rw c.bytes_to_come-room.ensures at c.min-end.ensures

pub bytes_to_come-room-requires : goal.bytes_to_come-room-requires
bytes_to_come-room-requires c = (k_few c.args.running.setting c.args.running.sum c.requires.coherent, omega (arith, c.requires.most))

pub index_in_job-requires : goal.index_in_job-requires
index_in_job-requires c =
    let a = c.args in
    let s = a.running.setting in
    let u = a.running.sum in
    let k = k_few s u c.requires.coherent in
    let few = bad-few s u a.pairs c.requires a.bytes.now c.min-end.result (ends_at (goal.at.index_in_job-requires c).After-first_bad) c.in-Some.bad c.in-Some.ensures in
    let most : room s u a.pairs ≤ 32 * 1000000 = mul-le-mul {n₂ = 32} {m₂ = 1000000} (omega (arith, k)) (omega (arith, c.requires.most)) in
    (k, omega (arith, c.requires.added, c.requires.most), omega (arith, few, most))

pub returns-in-Some : goal.returns-in-Some
returns-in-Some c =
    rw (c.refused.ensures, c.index_in_job.ensures)
    (at_8 c.args.running.setting c.args.running.sum c.args.pairs c.requires c.args.bytes.now c.min-end.result (ends_at (goal.at.returns-in-Some c).After-first_bad) c.in-Some.bad c.in-Some.ensures)

pub returns-then-room-bytes : goal.returns-then-room-bytes
returns-then-room-bytes c =
    let more = rw c.bytes_to_come-room.ensures at c.if-room-bytes.true in
    rw c.refused-then-room-bytes.ensures
    (at-17 c.args.running.setting c.args.running.sum c.args.pairs c.requires c.args.bytes.now c.min-end.result (ends_at (goal.at.returns-then-room-bytes c).After-first_bad) c.in_default.ensures (omega (arith, more)))

pub whole_bytes-whole-requires : goal.whole_bytes-whole-requires
whole_bytes-whole-requires c = (k-some c.args.running.setting c.args.running.sum c.requires.coherent, k_few c.args.running.setting c.args.running.sum c.requires.coherent)

-- nothing is refused: the bytes fit
few_bytes : (c : Else-room-bytes) → length c.args.bytes.now ≤ room c.args.running.setting c.args.running.sum c.args.pairs
few_bytes c = rw c.bytes_to_come-room.ensures at c.if-room-bytes.false

fitting : (c : Else-room-bytes) → Fits c.args.running.setting c.args.running.sum c.args.pairs c.args.bytes.now
fitting c = fits c.args.running.setting c.args.running.sum c.args.pairs c.requires c.args.bytes.now c.min-end.result (rw c.bytes_to_come-room.ensures at c.min-end.ensures) c.in_default.ensures (few_bytes c)

pub joined-requires : goal.joined-requires
joined-requires c =
    rw (rest-is c.whole_bytes-whole.result c.args.bytes.now, c.whole_bytes-whole.ensures)
    (omega (arith, back-short c.args.running.setting c.args.running.sum c.args.pairs c.requires c.args.bytes.now (fitting (goal.at.joined-requires c).Else-room-bytes), k_few c.args.running.setting c.args.running.sum c.requires.coherent))

pub feed_bytes-requires : goal.feed_bytes-requires
feed_bytes-requires c = rw c.whole_bytes-whole.ensures (front-feedable c.args.running.setting c.args.running.sum c.args.pairs c.requires c.args.bytes.now (fitting (goal.at.feed_bytes-requires c).Else-room-bytes))

pub returns : goal.returns
returns c =
    let bs = c.args.bytes.now in
    let whole = c.whole_bytes-whole.ensures in
    added c.args.running.setting c.args.running.sum c.args.pairs c.requires c.args.bytes.now c.min-end.result (ends_at (goal.at.returns c).After-first_bad) c.in_default.ensures (few_bytes (goal.at.returns c).Else-room-bytes)
    c.joined.result _ c.feed_bytes.result
    (rw (rest-is c.whole_bytes-whole.result bs, append-nil, whole) at c.joined.ensures)
    (rw whole (sym (length-drop _ bs)))
    (rw whole at c.feed_bytes.ensures)
