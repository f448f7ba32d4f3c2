-- `gather` meets its contract: after some turns the first z columns are in the sums. Assumes nothing.
use Rattle.std.proofs.Common.{ℕ, ◌≡◌, refl, ◌+◌, ◌-◌, ◌*◌, ◌<◌, min, List, length, arith}
use Rattle.polynomials.specs.Blocks.{blocks}
use Rattle.packed.specs.Gathering.{Gathering, AddsColumns, AddingColumns}
use Rattle.packed.specs.GatherLaws.{Gathered, gathered_none, columns-adding, gathered-more, gathered-all}
use Rattle.settings.specs.declared.setting.Setting.{Setting}
use Rattle.packed.proofs.columns.gather.Goals.{In_ok-add_columns}
use Rattle.packed.proofs.columns.gather.Goals as goal

-- the numbers that a turn works out are those of the law
module _ (s : Setting) (a b xs ys old : List ℕ) (pre : Gathering s a b xs ys old) (sums : List ℕ) (z m n start from top : ℕ)
    (so_far : Gathered s a b old sums z) (em : m ≡ blocks s.k (length a)) (en : n ≡ blocks s.k (length b)) (es : start ≡ z + 1 - n) (ef : from ≡ n - (z + 1)) (et : top ≡ min (z + 4) m)
    (inside : z + 1 < m + n) where
  again : z + 1 < blocks s.k (length a) + blocks s.k (length b)
  again = rw (← em, ← en) inside

  asks : AddingColumns s xs ys start from (top - start) (z * s.k) sums
  asks = rw (es, ef, et, em, en) (columns-adding s a b xs ys old pre z again sums so_far)

  gives : {new : List ℕ} → AddsColumns s xs ys start from (top - start) (z * s.k) sums new → Gathered s a b old new (z + 4)
  gives h = gathered-more s a b xs ys old pre z again sums so_far (rw (es, ef, et, em, en) at h)

-- four columns more
turned : (c : In_ok-add_columns) → Gathered c.args.s.setting c.args.a.now c.args.b.now c.args.sums.now c.add_columns.new.sums (c.loop-z.z + 4)
turned c =
    let a = c.args in
    let l = c.loop-z in
    gives a.s.setting a.a.now a.b.now a.xs.now a.ys.now a.sums.now c.requires l.sums l.z c.rounded_up-m.result c.rounded_up-n.result c.saturating_sub-start.result c.saturating_sub.result c.min.result l.invariant c.rounded_up-m.ensures c.rounded_up-n.ensures c.saturating_sub-start.ensures c.saturating_sub.ensures c.min.ensures (omega (arith, c.loop-z-test.true)) c.add_columns.ensures.1

pub loop-z-init : goal.loop-z-init
loop-z-init c = let a = c.args in gathered_none a.s.setting a.a.now a.b.now a.xs.now a.ys.now a.sums.now c.requires

pub add_columns-requires : goal.add_columns-requires
add_columns-requires c =
    let a = c.args in
    let l = c.loop-z in (
      asks a.s.setting a.a.now a.b.now a.xs.now a.ys.now a.sums.now c.requires l.sums l.z c.rounded_up-m.result c.rounded_up-n.result c.saturating_sub-start.result c.saturating_sub.result c.min.result l.invariant c.rounded_up-m.ensures c.rounded_up-n.ensures c.saturating_sub-start.ensures c.saturating_sub.ensures c.min.ensures (omega (arith, c.loop-z-test.true)),
      c.products_that_fit-fit.ensures,
    )

pub loop-z-preserved : goal.loop-z-preserved
loop-z-preserved c = turned (goal.at.loop-z-preserved c).In_ok-add_columns

pub returns-in_ok-add_columns : goal.returns-in_ok-add_columns
returns-in_ok-add_columns c =
    let a = c.args in
    (refl, gathered-all a.s.setting a.a.now a.b.now a.xs.now a.ys.now a.sums.now c.requires c.add_columns.new.sums (c.loop-z.z + 4) (turned (goal.at.returns-in_ok-add_columns c).In_ok-add_columns) (omega (arith, c.rounded_up-m.ensures, c.rounded_up-n.ensures)))

pub returns : goal.returns
returns c =
    let a = c.args in
    let l = c.loop-z in
    (refl, gathered-all a.s.setting a.a.now a.b.now a.xs.now a.ys.now a.sums.now c.requires l.sums l.z l.invariant (omega (arith, c.loop-z-test.false, c.rounded_up-m.ensures, c.rounded_up-n.ensures)))
