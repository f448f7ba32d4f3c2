-- `open` meets its contract. Assumes nothing.
use Rattle.std.proofs.Common.{ℕ, ◌≡◌, sym, ap, ◌∙◌, List, ◌++◌, length, rules}
use Rattle.settings.specs.Answers.{refused, fine}
use Rattle.packed.specs.Running.{fresh_sum, record_of}
use Rattle.settings.specs.declared.setting.Setting.{Setting}
use Rattle.packed.specs.declared.running.Record.{Record}
use Rattle.jobs.specs.Jobs.{header_bytes, setting_in, declared_pairs, header_checks}
use Rattle.jobs.specs.States.{settled, pairs_after, header_after}
use Rattle.jobs.specs.Adding.{Adding}
use Rattle.jobs.specs.declared.state.State.{State}
use Rattle.jobs.specs.HeaderLaws.{header-passed, header-adding, header-opened}
use Rattle.jobs.proofs.header.open.Goals.{Start, After-fresh, In-Ok}
use Rattle.jobs.proofs.header.open.Goals as goal
use Rattle.settings.specs.Refusals.{says}

module _ (header rest : List ℕ) (all : length header ≡ header_bytes) where
  at-refused : (number place : ℕ) → header_checks header ≡ refused number place → settled number place ≡ header_after (header ++ rest)
  at-refused number place e = rw (header-opened header rest all, e)

  module _ (e : header_checks header ≡ fine) (r : Record) (pairs : ℕ) (fresh : r ≡ record_of (setting_in header) fresh_sum) (declared : pairs ≡ declared_pairs header) where
    adds : Adding r.setting r.sum pairs
    adds = rw (fresh, declared) (header-adding header (header-passed header e))

    at-pairs : (st : State) → st ≡ pairs_after r.setting r.sum pairs rest → st ≡ header_after (header ++ rest)
    at-pairs st taken = rw (taken, fresh, declared, header-opened header rest all, e)

whole : (c : Start) → length c.args.header.now ≡ header_bytes
whole c = search rules

passed : (c : In-Ok) → header_checks c.args.header.now ≡ fine
passed c = sym c.check_header.ensures ∙ ap says c.in-Ok.is

begun : (c : After-fresh) → c.fresh.result.running ≡ record_of (setting_in c.args.header.now) fresh_sum
begun c = c.fresh.ensures.1 ∙ ap (λ (s : Setting). record_of s fresh_sum) c.setting_in.ensures

pub add_bytes-requires : goal.add_bytes-requires
add_bytes-requires c =
    adds c.args.header.now c.args.rest.now (whole (goal.at.add_bytes-requires c).Start) (passed (goal.at.add_bytes-requires c).In-Ok) _ _ (begun (goal.at.add_bytes-requires c).After-fresh) c.declared_pairs.ensures

pub returns-in-Ok : goal.returns-in-Ok
returns-in-Ok c =
    at-pairs c.args.header.now c.args.rest.now (whole (goal.at.returns-in-Ok c).Start) (passed (goal.at.returns-in-Ok c).In-Ok) _ _ (begun (goal.at.returns-in-Ok c).After-fresh) c.declared_pairs.ensures _ c.add_bytes.ensures

pub returns-in-Err : goal.returns-in-Err
returns-in-Err c =
    c.refused.ensures ∙ at-refused c.args.header.now c.args.rest.now (whole (goal.at.returns-in-Err c).Start) _ _ (sym c.check_header.ensures ∙ ap says c.in-Err.is)
