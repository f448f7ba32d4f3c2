-- `adding_cause` meets its contract: past the record's own causes k is in range, and the held bytes are fewer than a pair's 4k. Assumes nothing.
use Rattle.std.proofs.Common.{◌≡◌, ◌≤◌, length, sym, ◌∙◌, arith, rules, length-take-le}
use Rattle.settings.specs.Settings.{InChoice}
use Rattle.settings.specs.Bounds.{bounds}
use Rattle.packed.specs.RunningLaws.{coherent-is}
use Rattle.jobs.proofs.coherent.adding_cause.Goals.{Else-record_cause, Else-pair_bytes-size}
use Rattle.jobs.proofs.coherent.adding_cause.Goals as goal

range : (c : Else-record_cause) → let s = c.args.state.running.setting in InChoice s.p s.k s.n
range c = (bounds c.args.state.running.setting ((coherent-is c.args.state.running).0 (sym c.record_cause.ensures ∙ c.if-record_cause.false)).accepted).range.choice

pub pair_bytes-requires : goal.pair_bytes-requires
pair_bytes-requires c = (range (goal.at.pair_bytes-requires c).Else-record_cause).k_high

pub bytes_to_come-requires : goal.bytes_to_come-requires
bytes_to_come-requires c = ((range (goal.at.bytes_to_come-requires c).Else-record_cause).k_high, omega arith)

-- fewer than a pair are held
within : (c : Else-pair_bytes-size) → c.args.state.size ≤ length c.args.state.held
within c =
    let k = (range (goal.at-Else-pair_bytes-size c).Else-record_cause).k_high in
    let whole : length c.args.state.held ≡ 32 = search rules in
    omega (arith, k)

pub slice_bounds-held-end : goal.slice_bounds-held-end
slice_bounds-held-end c = within (goal.at.slice_bounds-held-end c).Else-pair_bytes-size

pub slice_bounds-first_bad-end : goal.slice_bounds-first_bad-end
slice_bounds-first_bad-end c = sym (length-take-le _ _ (within (goal.at.slice_bounds-first_bad-end c).Else-pair_bytes-size))
