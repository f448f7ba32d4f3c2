-- Laws of pairs in bytes, and of adding them up. Assumes nothing.
--     pairs-even                            two bytes a coefficient, 2k coefficients a pair
--     share                                 how often b goes into m b and more
--     coefficients-join, pairs-in-join      the coefficients of joined bytes, and the pairs of joined coefficients, where the first are whole
--     k-some, k_few                         of a coherent record k is from 1 to 8
--     sum-after-join, sum-after-none                    bytes one after the other are added up as joined bytes are; less than a pair adds nothing
--     sum-total, sum-coherent               how many pairs were added; a coherent record stays so
--     pairs_below                           pairs of coefficients below p are operands
use Rattle.std.specs.Prelude.{◌≡◌, ℕ, ◌+◌, ◌-◌, ◌*◌, ◌/◌, ◌≤◌, ◌<◌, List, ◌++◌}
use Rattle.std.proofs.Common.{sym, ap, ◌∙◌, add_comm, mul-div_cancel, mul_assoc, arith, length-append}
use Rattle.std.proofs.Math.Nat.{add-mul-div_right, div-div-eq-div-mul, div-eq_of_lt}
use Rattle.std.proofs.Math.ListN.{length, get_or-append}
use Rattle.polynomials.specs.IndexLaws.{upto-same, upto-join}
use Rattle.polynomials.specs.Lists.{Below, Pairs}
use Rattle.polynomials.specs.ListLaws.{coefficient-after}
use Rattle.polynomials.specs.Blocks.{block, pairs_upto}
use Rattle.polynomials.specs.BlockLaws.{block-operand, length_pairs, pairs-operands}
use Rattle.polynomials.specs.PairLaws.{pairs-same, pairs-more, inside-first, inside-second}
use Rattle.layout.specs.Numbers.{number_at, number_at-same}
use Rattle.settings.specs.Limits.{most_coefficients, most_pairs}
use Rattle.packed.specs.Taken.{taken, taken-length, taken-join, taken-low}
use Rattle.settings.specs.Bounds.{bounds}
use Rattle.packed.specs.Running.{Coherent, after_pairs}
use Rattle.packed.specs.RunningLaws.{after-join, after-total, coherent-after}
use Rattle.settings.specs.declared.setting.Setting.{Setting}
use Rattle.packed.specs.declared.running.Sum.{Sum}
use Rattle.jobs.specs.Jobs.{pair_bytes, coefficients_in, pairs_in}
use Rattle.jobs.specs.States.{sum_after}
use Rattle.jobs.specs.ByteLaws.{length-coefficients_in}

-- ---- coefficients in bytes

-- many of b, and then more
pub share : (b m x : ℕ) → 0 < b → (m * b + x) / b ≡ m + x / b
share b m x h = rw (add_comm (m * b) x, add-mul-div_right x m h, add_comm (x / b) m)

pub coefficients-join : (m : ℕ) (xs ys : List ℕ) → length xs ≡ m * 2 → coefficients_in (xs ++ ys) ≡ coefficients_in xs ++ coefficients_in ys
coefficients-join m xs ys h =
    let all : length (xs ++ ys) / 2 ≡ m + length ys / 2 = rw (length-append xs ys, h) (share 2 m (length ys) (omega arith)) in
    let some : length xs / 2 ≡ m = rw h (mul-div_cancel m (omega arith)) in
    rw (all, some)
    (upto-join m (length ys / 2) (λ i. number_at (xs ++ ys) (2 * i) 2)
    ∙ rw (
      upto-same m (λ i. number_at (xs ++ ys) (2 * i) 2) (λ i. number_at xs (2 * i) 2) front,
      upto-same (length ys / 2) (λ i. number_at (xs ++ ys) (2 * (m + i)) 2) (λ i. number_at ys (2 * i) 2) back,
    ))
  where
    front : (i : ℕ) → i < m → number_at (xs ++ ys) (2 * i) 2 ≡ number_at xs (2 * i) 2
    front i l = number_at-same (xs ++ ys) xs (2 * i) (2 * i) 2 (λ r lr. get_or-append xs ys 0 (2 * i + r) (omega arith))

    back : (i : ℕ) → i < length ys / 2 → number_at (xs ++ ys) (2 * (m + i)) 2 ≡ number_at ys (2 * i) 2
    back i l =
        number_at-same (xs ++ ys) ys (2 * (m + i)) (2 * i) 2
        (λ r lr. let e : 2 * (m + i) + r - length xs ≡ 2 * i + r = omega arith in coefficient-after xs ys (2 * (m + i) + r) (omega arith) ∙ rw e)

-- ---- pairs in coefficients

pub pairs-in-join : (k m : ℕ) (cs ds : List ℕ) → 0 < k → length cs ≡ m * (2 * k) → pairs_in k (cs ++ ds) ≡ pairs_in k cs ++ pairs_in k ds
pairs-in-join k m cs ds hk h =
    let some : length cs / (2 * k) ≡ m = rw h (mul-div_cancel m (omega arith)) in
    let all : length (cs ++ ds) / (2 * k) ≡ m + length ds / (2 * k) = rw (length-append cs ds, h) (share (2 * k) m (length ds) (omega arith)) in
    let n : ℕ = length ds / (2 * k) in
    let both : List ℕ = cs ++ ds in
    let front : pairs_upto m (λ i. block k both (2 * i)) (λ i. block k both (2 * i + 1)) ≡ pairs_upto m (λ i. block k cs (2 * i)) (λ i. block k cs (2 * i + 1)) = pairs-same m (λ i. block k both (2 * i)) (λ i. block k cs (2 * i)) (λ i. block k both (2 * i + 1)) (λ i. block k cs (2 * i + 1)) (λ r l. inside-first k (2 * m) cs ds size (2 * r) (omega arith)) (λ r l. inside-first k (2 * m) cs ds size (2 * r + 1) (omega arith)) in
    let back : pairs_upto n (λ r. block k both (2 * (m + r))) (λ r. block k both (2 * (m + r) + 1)) ≡ pairs_upto n (λ r. block k ds (2 * r)) (λ r. block k ds (2 * r + 1)) = pairs-same n (λ r. block k both (2 * (m + r))) (λ r. block k ds (2 * r)) (λ r. block k both (2 * (m + r) + 1)) (λ r. block k ds (2 * r + 1)) (λ r l. second (2 * (m + r)) (2 * r) (omega arith)) (λ r l. second (2 * (m + r) + 1) (2 * r + 1) (omega arith)) in
    rw (all, some) (pairs-more m n (λ i. block k both (2 * i)) (λ i. block k both (2 * i + 1)) ∙ rw (front, back))
  where
    size : length cs ≡ 2 * m * k
    size = h ∙ sym (mul_assoc m 2 k) ∙ ap (λ (x : ℕ). x * k) (omega arith)

    second : (i r : ℕ) → i ≡ 2 * m + r → block k (cs ++ ds) i ≡ block k ds r
    second i r e = rw e (inside-second k (2 * m) cs ds size r)

-- ---- adding up

-- of a coherent record, k is in range
module _ (s : Setting) (u : Sum) (c : Coherent s u) where
  pub k-some : 1 ≤ s.k
  k-some = (bounds s c.accepted).range.choice.k_low

  pub k_few : s.k ≤ most_coefficients
  k_few = (bounds s c.accepted).range.choice.k_high

-- the bytes of m pairs are those of 2 m k coefficients
pub pairs-even : (m k size : ℕ) → size ≡ m * pair_bytes k → size ≡ m * (2 * k) * 2
pairs-even m k size h = h ∙ (let e : 4 * k ≡ 2 * k * 2 = omega arith in rw e (sym (mul_assoc m (2 * k) 2)))

module _ (s : Setting) (u : Sum) (hk : 1 ≤ s.k) where
  pub sum-after-join : (m : ℕ) (xs ys : List ℕ) → length xs ≡ m * pair_bytes s.k → sum_after s u (xs ++ ys) ≡ sum_after s (sum_after s u xs) ys
  unfolding sum_after
  sum-after-join m xs ys h =
      let cs : List ℕ = coefficients_in xs in
      let ds : List ℕ = coefficients_in ys in
      let even : length xs ≡ m * (2 * s.k) * 2 = pairs-even m s.k (length xs) h in
      let size : length (taken s.p cs) ≡ m * (2 * s.k) = taken-length s.p cs ∙ length-coefficients_in xs ∙ rw even (mul-div_cancel (m * (2 * s.k)) (omega arith)) in
      rw (coefficients-join (m * (2 * s.k)) xs ys even, taken-join s.p cs ds, pairs-in-join s.k m (taken s.p cs) (taken s.p ds) hk size)
      (after-join s u (pairs_in s.k (taken s.p cs)) (pairs_in s.k (taken s.p ds)))

  module _ (bs : List ℕ) where
    count : length (pairs_in s.k (taken s.p (coefficients_in bs))) ≡ length bs / pair_bytes s.k
    count =
        length_pairs (length (taken s.p (coefficients_in bs)) / (2 * s.k)) (λ i. block s.k (taken s.p (coefficients_in bs)) (2 * i)) (λ i. block s.k (taken s.p (coefficients_in bs)) (2 * i + 1))
        ∙ rw (taken-length s.p (coefficients_in bs), length-coefficients_in bs, div-div-eq-div-mul (length bs) 2 (2 * s.k)) (ap (λ (d : ℕ). length bs / d) (omega arith))

    pub sum-total : (sum_after s u bs).total ≡ u.total + length bs / pair_bytes s.k
    unfolding sum_after
    sum-total = after-total s u (pairs_in s.k (taken s.p (coefficients_in bs))) ∙ rw count

    pub pairs_below : Below s.p (coefficients_in bs) → Pairs s.p s.k (pairs_in s.k (taken s.p (coefficients_in bs)))
    pairs_below h =
        let cs : List ℕ = taken s.p (coefficients_in bs) in
        pairs-operands s.p s.k (length cs / (2 * s.k)) (λ i. block s.k cs (2 * i)) (λ i. block s.k cs (2 * i + 1))
        (λ r. block-operand s.p s.k cs (2 * r) (taken-low s.p (coefficients_in bs) h))
        (λ r. block-operand s.p s.k cs (2 * r + 1) (taken-low s.p (coefficients_in bs) h))

    pub sum-coherent : Coherent s u → Below s.p (coefficients_in bs) → u.total + length bs / pair_bytes s.k ≤ most_pairs → Coherent s (sum_after s u bs)
    unfolding sum_after
    sum-coherent c h few = coherent-after s u (pairs_in s.k (taken s.p (coefficients_in bs))) c (pairs_below h) (rw count few)

    pub sum-after-none : length bs < pair_bytes s.k → sum_after s u bs ≡ u
    unfolding sum_after after_pairs
    sum-after-none h =
        let none : length (taken s.p (coefficients_in bs)) / (2 * s.k) ≡ 0 = rw (taken-length s.p (coefficients_in bs), length-coefficients_in bs, div-div-eq-div-mul (length bs) 2 (2 * s.k)) (div-eq_of_lt (omega arith)) in
        rw none
