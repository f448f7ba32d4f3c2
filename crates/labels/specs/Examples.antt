-- Numbers that others have printed, computed from the definitions.
--     level-0         request T-07: level 0 has the generator x^2 + 917x + 27
--     quoted          the often quoted label of level 1: 5 453 178 121 239 has the check words 452 327 657 619
use Rattle.std.specs.Prelude.{◌≡◌, refl, [], ◌∷◌}
use Rattle.divisions.specs.Divisions.{divided}
use Rattle.divisions.specs.Values.{with_roots}
use Rattle.labels.specs.Labels.{check_count, generator, label}

pub level-0 : generator (check_count 0) ≡ 27 ∷ 917 ∷ 1 ∷ []
unfolding with_roots
level-0 = refl

pub quoted : label 1 (5 ∷ 453 ∷ 178 ∷ 121 ∷ 239 ∷ []) ≡ 5 ∷ 453 ∷ 178 ∷ 121 ∷ 239 ∷ 452 ∷ 327 ∷ 657 ∷ 619 ∷ []
unfolding with_roots divided label
quoted = refl
