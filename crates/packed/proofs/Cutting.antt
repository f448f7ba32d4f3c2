-- Cutting a list of pairs into calls of feed refuses nothing. It stands here, apart from demand 3, so that what rests on feed-cut does not stand in specs/: an
-- edit of feed-cut is then refused by its own proof. It names promises, and no function. Assumes nothing.
--     calls-cut    where one call with all pairs is taken, so is every call of those that cut them at pairs
use Rattle.std.specs.Prelude.{◌≡◌, false, List, [], ◌∷◌}
use Rattle.std.proofs.Common.{ap}
use Rattle.settings.specs.Answers.{refuses}
use Rattle.packed.specs.Taken.{taken}
use Rattle.packed.specs.Running.{Feeds}
use Rattle.packed.specs.Calls.{Call, Calls, Asked, AtPairs, lefts, rights}
use Rattle.packed.specs.RunningChecks.{feed-told}
use Rattle.packed.specs.Joining.{feed-cut, fed_by, fed-by}
use Rattle.packed.specs.declared.running.Record.{Record}
use Rattle.settings.specs.Refusals.{says}
use Rattle.packed.specs.declared.running.Fed.{Fed}

pub calls-cut : (r : Record) (calls : List Call) (z : Record) (h : Fed) → AtPairs r.setting.k calls → Asked r calls z → Feeds r (lefts calls) (rights calls) h → refuses (says h.answer) ≡ false
    → Calls r calls z
calls-cut r [] z h at-pairs asked whole taken = asked
calls-cut r (c ∷ calls) z h at-pairs asked whole taken =
    let us = lefts calls in
    let vs = rights calls in
    let cut = feed-cut r c.left c.right us vs h c.gave at-pairs.0 at-pairs.1 whole taken asked.0 in
    let next : Record = c.gave.running in
    let same : next.setting ≡ r.setting = ap (λ (r : Record). r.setting) (feed-told r c.left c.right c.gave asked.0 cut.0).after in
    let rest : refuses (says (fed_by next us vs).answer) ≡ false = (cut.1 (fed_by next us vs) (fed-by next us vs)).0 in
    (asked.0, cut.0, calls-cut next calls z (fed_by next us vs) (rw same at-pairs.2) asked.1 (fed-by next us vs) rest)
