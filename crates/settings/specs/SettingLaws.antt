-- What the checks of a setting say. Assumes nothing.
--     range-says, range-passes
--                             what a range's test says, and what passes it
--     in-choice, in-range     what passes 1 to 3, and 1 to 4, is in range
use Rattle.std.specs.Prelude.{ℕ, ◌≤◌, ◌≡◌, false, ltb}
use Rattle.std.proofs.Common.{ltb-false, le-ltb}
use Rattle.polynomials.specs.Tests.{neither}
use Rattle.settings.specs.Limits.{largest_modulus, most_coefficients, largest_batch, widest}
use Rattle.settings.specs.Settings.{outside, modulus_cause, length_cause, batch_cause, width_cause, InChoice, InRange}
use Rattle.settings.specs.declared.setting.Setting.{Setting}

pub range-says : (low high x : ℕ) → outside low high x ≡ false → (low ≤ x) × (x ≤ high)
range-says low high x e = let h = neither (ltb x low) (ltb high x) e in (ltb-false x low h.0, ltb-false high x h.1)

pub range-passes : (low high x : ℕ) → low ≤ x → x ≤ high → outside low high x ≡ false
range-passes low high x l h = rw (le-ltb x low l, le-ltb high x h)

pub in-choice : (p k n : ℕ) → modulus_cause p ≡ false → length_cause k ≡ false → batch_cause n ≡ false → InChoice p k n
in-choice p k n m l b =
    let hp = range-says 2 largest_modulus p m in
    let hk = range-says 1 most_coefficients k l in
    let hn = range-says 1 largest_batch n b in
    record { p_low = hp.0; p_high = hp.1; k_low = hk.0; k_high = hk.1; n_low = hn.0; n_high = hn.1 }

pub in-range : (s : Setting) → InChoice s.p s.k s.n → width_cause s.t ≡ false → InRange s
in-range s c w = let h = range-says 1 widest s.t w in record { choice = c; t_low = h.0; t_high = h.1 }
