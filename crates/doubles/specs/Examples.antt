-- Which doubles are whole numbers, and which are not, computed: the definition as a table. Assumes nothing.
--     not-whole        a NaN, the infinities, a half, -1 and -0
--     is-whole         +0, 1 and the last, 2^53
--     zero-positive    the double of zero is +0
use Rattle.std.specs.Prelude.{◌≡◌, refl, true, false, pos, negsuc}
use Rattle.std.specs.Float.{nan, inf, fin}
use Rattle.std.specs.Float.Ieee.{of_int, whole, in_unsigned}
use Rattle.doubles.specs.Whole.{double, is_whole}

pub not-whole : (is_whole nan ≡ false) × (is_whole (inf false) ≡ false) × (is_whole (inf true) ≡ false) × (is_whole (fin false 1 (negsuc 0)) ≡ false) × (is_whole (fin true 1 (pos 0)) ≡ false) × (is_whole (fin true 0 (pos 0)) ≡ false)
unfolding in_unsigned whole
not-whole = (refl, refl, refl, refl, refl, refl)

pub is-whole : (is_whole (fin false 0 (pos 0)) ≡ true) × (is_whole (fin false 1 (pos 0)) ≡ true) × (is_whole (fin false 1 (pos 53)) ≡ true)
unfolding in_unsigned whole
is-whole = (refl, refl, refl)

pub zero-positive : double 0 ≡ fin false 0 (pos 0)
unfolding of_int
zero-positive = refl
