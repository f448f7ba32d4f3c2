-- What the workers of the generator need of lists. Assumes nothing.
--     longer-size, root-written         a list times (x - 3^j): how many words product writes, and what copying them leaves
--     GeneratorUpTo old j out           the generator stands in the first j places, and after them what stood there
--     making-begun, making-size, making-below, making-turn, making-ended
--                                       the loop that makes it: its start, its length, what it multiplies, its turn, its end
use Rattle.std.specs.Prelude.{ℕ, suc, ◌+◌, ◌-◌, ◌≤◌, ◌<◌, ◌≡◌, refl, List, [], ◌∷◌, ◌++◌, length, take, drop, set, Result}
use Rattle.std.proofs.Common.{sym, ap, ◌∙◌, append-nil, arith, length-append, length-drop, drop_of_length-le, length-take-le, take_at, drop_at, drop-drop}
use Rattle.polynomials.specs.Indices.{filled}
use Rattle.polynomials.specs.Lists.{coefficient, Below}
use Rattle.polynomials.specs.Places.{minus}
use Rattle.polynomials.specs.ListLaws.{coefficients}
use Rattle.divisions.specs.Values.{linear, with_roots}
use Rattle.divisions.specs.CongruenceLaws.{minus-residue}
use Rattle.divisions.specs.ValueLaws.{length-with_roots, roots-below, linear-below}
use Rattle.packed.specs.Products.{Multiplies}
use Rattle.labels.specs.Labels.{modulus, most_checks, root, power, generator}
use Rattle.labels.specs.Working.{times_root}
use Rattle.labels.specs.SettingLaws.{label_setting}
use Rattle.labels.specs.MultiplyLaws.{product-words, multiplied}
use Rattle.settings.specs.declared.refusals.Refusal.{Refusal}

-- ---- one root more

module _ (j y x : ℕ) (out old after : List ℕ) (r : Result ℕ Refusal) (some : 0 < j) (within : j < length out) (few : length out ≤ most_checks + 1)
    (below : Below modulus (take j out)) (room : most_checks + 1 ≤ length old) (hy : y ≡ power j) (hx : x ≡ minus modulus 0 y)
    (m : Multiplies label_setting (take j out) (x ∷ 1 ∷ []) old r after) where
  factor : x ∷ 1 ∷ [] ≡ linear modulus (root j)
  factor = ap (λ (n : ℕ). n ∷ 1 ∷ []) (hx ∙ rw hy (minus-residue modulus 0 (root j)))

  first-size : length (take j out) ≡ j
  first-size = length-take-le j out (omega arith)

  longer-words : take (j + 1) after ≡ times_root j (take j out)
  longer-words =
      multiplied (take j out) (linear modulus (root j)) below (linear-below modulus (root j) (omega arith)) (rw first-size (omega arith)) (omega arith)
      (j + 1) old after r (rw first-size some) (omega arith) (rw first-size (omega arith)) (omega arith) (rw factor at m)

  pub longer-size : length (take (j + 1) after) ≡ j + 1
  longer-size = rw longer-words (product-words (take j out) (linear modulus (root j)) (j + 1) (rw first-size some) (omega arith) (rw first-size (omega arith)))

  pub root-written : (now : List ℕ) → now ≡ filled (length (take (j + 1) after)) (coefficient (take (j + 1) after)) out → now ≡ times_root j (take j out) ++ drop (j + 1) out
  root-written now e = e ∙ rw (coefficients (take (j + 1) after), longer-size, longer-words)

-- ---- all roots

root-more : (j k : ℕ) → j ≡ suc k → times_root j (generator k) ≡ generator j
unfolding with_roots
root-more j k e = rw e

pub record GeneratorUpTo (old : List ℕ) (j : ℕ) (out : List ℕ) : Type 0 where
  pub some : 0 < j
  pub within : j ≤ length old
  pub words : out ≡ generator (j - 1) ++ drop j old

pub making-begun : (xs : List ℕ) → 0 < length xs → GeneratorUpTo (set xs 0 1) 1 (set xs 0 1)
unfolding with_roots
making-begun [] h = absurd (omega arith)
making-begun (x ∷ xs) h = record { some = omega arith; within = omega arith; words = refl }

module _ (old : List ℕ) (j : ℕ) (out : List ℕ) (m : GeneratorUpTo old j out) where
  made-size : length (generator (j - 1)) ≡ j
  made-size = length-with_roots modulus root (j - 1) ∙ omega (arith, m.some)

  pub making-size : length out ≡ length old
  making-size = rw m.words (simp (length-append, made-size, length-drop) (omega (arith, m.within)))

  made-first : take j out ≡ generator (j - 1)
  made-first = rw m.words (take_at (generator (j - 1)) (drop j old) j made-size)

  pub making-below : Below modulus (take j out)
  making-below = rw made-first (roots-below modulus root (j - 1) (omega arith))

  made-rest : drop (j + 1) out ≡ drop (j + 1) old
  made-rest =
      let after : drop j out ≡ drop j old = rw m.words (drop_at (generator (j - 1)) (drop j old) j made-size) in
      sym (drop-drop 1 j out) ∙ rw after (drop-drop 1 j old)

  pub making-turn : (now : List ℕ) → j < length old → now ≡ times_root j (take j out) ++ drop (j + 1) out → GeneratorUpTo old (j + 1) now
  making-turn now l e =
      let next : j + 1 - 1 ≡ j = omega arith in
      record { some = omega arith; within = omega arith; words = rw next (e ∙ rw (made-first, made-rest, root-more j (j - 1) (omega (arith, m.some)))) }

  pub making-ended : length old ≤ j → out ≡ generator (length old - 1)
  making-ended through =
      let all : j ≡ length old = omega (arith, m.within) in
      m.words ∙ rw (drop_of_length-le old through, append-nil, all)
