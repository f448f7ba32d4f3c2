-- `add_columns` meets its contract: after some batches the columns' worth of the products done so far is added. A batch has at most n
-- products, and that many fit. Assumes nothing.
use Rattle.std.proofs.Common.{ℕ, ◌≡◌, refl, ◌+◌, ◌≤◌, List, ◌∙◌, arith}
use Rattle.polynomials.specs.Places.{packed}
use Rattle.packed.specs.BatchLaws.{columns_worth, columns-none, columns-join, columns-fewer}
use Rattle.packed.specs.Gathering.{AddsColumns, AddingColumns}
use Rattle.settings.specs.declared.setting.Setting.{Setting}
use Rattle.packed.proofs.columns.add_columns.Goals as goal

module _ (s : Setting) (xs ys : List ℕ) (i j count at : ℕ) (old : List ℕ) (pre : AddingColumns s xs ys i j count at old) (done more : ℕ) (sums : List ℕ)
    (inv : AddsColumns s xs ys i j done at old sums) (few : done + more ≤ count) where
  adding : AddingColumns s xs ys (i + done) (j + done) more at sums
  adding = record {
    bounded = pre.bounded;
    left = pre.left;
    right = pre.right;
    left_room = omega (arith, pre.left_room);
    right_room = omega (arith, pre.right_room);
    room = rw inv.size pre.room;
    near = pre.near;
    total =
        let so_far : packed 1 sums ≡ packed 1 old + columns_worth s 1 xs ys i j done at = inv.in_base 1 in
        let joined = columns-join s 1 xs ys i done more j at in
        omega (arith, pre.total, columns-fewer s 1 xs ys i j (done + more) count at few);
  }

  turn : {new : List ℕ} → AddsColumns s xs ys (i + done) (j + done) more at sums new → AddsColumns s xs ys i j (done + more) at old new
  turn h = record { size = h.size ∙ inv.size; in_base = λ b. h.in_base b ∙ rw (inv.in_base b, columns-join s b xs ys i done more j at) (omega arith) }

pub loop-done-init : goal.loop-done-init
loop-done-init c =
    let a = c.args in
    (omega arith, record { size = refl; in_base = λ b. rw (columns-none a.s.setting b a.xs.now a.ys.now a.i a.j a.at) (omega arith) })

pub add_four_batches-requires : goal.add_four_batches-requires
add_four_batches-requires c =
    let a = c.args in
    let l = c.loop-done in
    let more = c.min-more in (
      adding a.s.setting a.xs.now a.ys.now a.i a.j a.count a.at a.sums.now c.requires.0 l.done more.result l.sums l.invariant.1 (omega (arith, more.ensures)),
      omega (arith, more.ensures, c.batch_size-most.ensures.1),
    )

pub loop-done-preserved : goal.loop-done-preserved
loop-done-preserved c =
    let a = c.args in
    let l = c.loop-done in
    let more = c.min-more in
    let whole : more.result ≡ c.batch_size-most.result = omega (arith, more.ensures) in
    (omega arith, rw (← whole) (turn a.s.setting a.xs.now a.ys.now a.i a.j a.count a.at a.sums.now c.requires.0 l.done more.result l.sums l.invariant.1 (omega (arith, more.ensures)) c.add_four_batches.ensures))

pub returns-else-overflows : goal.returns-else-overflows
returns-else-overflows c =
    let a = c.args in
    let l = c.loop-done in
    let more = c.min-more in
    let through : l.done + more.result ≡ a.count = omega (arith, more.ensures) in
    (refl, rw (← through) (turn a.s.setting a.xs.now a.ys.now a.i a.j a.count a.at a.sums.now c.requires.0 l.done more.result l.sums l.invariant.1 (omega arith) c.add_four_batches.ensures))

pub returns : goal.returns
returns c =
    let through : c.loop-done.done ≡ c.args.count = omega arith in
    (refl, rw (← through) c.loop-done.invariant.1)
