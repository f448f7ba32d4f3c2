-- `pack_block` meets its contract. Assumes nothing.
use Rattle.std.proofs.Common.{ℕ, ◌≡◌, ◌+◌, ◌*◌, ◌<◌, ◌^◌, min, List, length, ◌∙◌, arith}
use Rattle.polynomials.specs.Lists.{part}
use Rattle.polynomials.specs.Places.{packed}
use Rattle.polynomials.specs.PlaceLaws.{packed-agree}
use Rattle.polynomials.specs.Blocks.{block, block_at}
use Rattle.polynomials.specs.BlockLaws.{block-operand}
use Rattle.settings.specs.Bounds.{Bounds}
use Rattle.settings.specs.Settings.{base}
use Rattle.settings.specs.declared.setting.Setting.{Setting}
use Rattle.packed.specs.Taken.{taken, taken-low, taken-part}
use Rattle.packed.specs.Gathering.{Packable}
use Rattle.packed.proofs.blocks.pack_block.Goals as goal

module _ (s : Setting) (bounded : Bounds s) (xs : List ℕ) (i : ℕ) (pre : Packable s xs) where
  -- the part that is packed is the block
  same : (start end : ℕ) → start ≡ min (i * s.k) (length xs) → end ≡ min (start + s.k) (length xs) → packed (base s) (taken s.p (part start end xs)) ≡ block_at (base s) s.k (taken s.p xs) i
  same start end hs he = packed-agree (base s) (taken s.p (part start end xs)) (block s.k (taken s.p xs) i) (λ j. taken-part s.p s.k xs i start end j hs he)

  word : block_at (base s) s.k (taken s.p xs) i < 2 ^ 32
  word = bounded.word_fits (block s.k (taken s.p xs) i) (block-operand s.p s.k (taken s.p xs) i (taken-low s.p xs pre.below))

pub pack_taken-requires : goal.pack_taken-requires
pack_taken-requires c =
    let a = c.args in
    let s = a.s.setting in
    let pre = c.requires.0 in
    let range = a.s.bounds.range in
    (omega (arith, range.choice.p_low), omega (arith, range.t_high), rw (same s a.s.bounds a.xs.now a.i pre _ _ c.min-start.ensures c.min-end.ensures) (omega (arith, word s a.s.bounds a.xs.now a.i pre)))

pub returns : goal.returns
returns c =
    let a = c.args in
    c.pack_taken.ensures ∙ same a.s.setting a.s.bounds a.xs.now a.i c.requires.0 _ _ c.min-start.ensures c.min-end.ensures
