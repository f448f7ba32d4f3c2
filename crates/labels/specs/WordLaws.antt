-- Laws of the loops over words. Assumes nothing.
--     from_end xs j          word j from the end
--     turned                a list filled with these is the list reversed
--     opposite_from_end xs j  zero less that word, modulo 929
--     length-opposites      as many opposites as words
--     turned-opposites      a list filled with these is that of the opposites, reversed
--     less_at old xs j       word j of old, less that of xs, modulo 929
--     still-there           what a filling loop has not reached is as it was
--     filled-through        a list that is filled to its end
--     front_fits            a list that starts with n words has as many
use Rattle.std.specs.Prelude.{ℕ, ◌-◌, ◌≤◌, ◌<◌, ◌≡◌, List, [], ◌++◌, reverse, length, replicate}
use Rattle.std.proofs.Common.{sym, ap, ◌∙◌, append-nil, arith, length-append}
use Rattle.std.proofs.lemmas.List.{length-replicate}
use Rattle.std.proofs.Math.Seq.{drop-length}
use Rattle.polynomials.specs.Indices.{upto, filled}
use Rattle.polynomials.specs.Lists.{coefficient}
use Rattle.polynomials.specs.IndexLaws.{upto-same}
use Rattle.polynomials.specs.ListLaws.{filled-after, coefficient-zeros}
use Rattle.polynomials.specs.Places.{minus}
use Rattle.divisions.specs.CongruenceLaws.{length-less, coefficient-less}
use Rattle.divisions.specs.ReverseLaws.{reverse-list}
use Rattle.labels.specs.Labels.{modulus}
use Rattle.labels.specs.Working.{opposites}

abbrev pub from_end : List ℕ → ℕ → ℕ
from_end xs j = coefficient xs (length xs - 1 - j)

abbrev pub less_at : List ℕ → List ℕ → ℕ → ℕ
less_at old xs j = minus modulus (coefficient old j) (coefficient xs j)

pub still-there : (f : ℕ → ℕ) (old now : List ℕ) (i : ℕ) → now ≡ filled i f old → coefficient now i ≡ coefficient old i
still-there f old now i e = rw e (filled-after i f old i (omega arith))

pub filled-through : (f : ℕ → ℕ) (old now : List ℕ) (i : ℕ) → i ≡ length old → now ≡ filled i f old → now ≡ upto (length old) f
filled-through f old now i all e = e ∙ rw (all, drop-length old, append-nil (upto (length old) f))

pub turned : (xs old now : List ℕ) (i : ℕ) → length old ≡ length xs → i ≡ length xs → now ≡ filled i (from_end xs) old → now ≡ reverse xs
turned xs old now i size all e =
    filled-through (from_end xs) old now i (all ∙ sym size) e ∙ rw size (sym (reverse-list xs))

abbrev pub opposite_from_end : List ℕ → ℕ → ℕ
opposite_from_end xs j = minus modulus 0 (from_end xs j)

pub length-opposites : (xs : List ℕ) → length (opposites xs) ≡ length xs
length-opposites xs = length-less modulus (replicate (length xs) 0) xs ∙ length-replicate (length xs) 0

coefficient-opposites : (xs : List ℕ) (j : ℕ) → j < length xs → coefficient (opposites xs) j ≡ minus modulus 0 (coefficient xs j)
coefficient-opposites xs j l = coefficient-less modulus (replicate (length xs) 0) xs j (rw length-replicate l) ∙ rw (coefficient-zeros [] (length xs) j)

pub turned-opposites : (xs old now : List ℕ) (i : ℕ) → length old ≡ length xs → i ≡ length xs → now ≡ filled i (opposite_from_end xs) old → now ≡ reverse (opposites xs)
turned-opposites xs old now i size all e =
    let same : upto (length xs) (opposite_from_end xs) ≡ upto (length xs) (from_end (opposites xs)) = upto-same (length xs) (opposite_from_end xs) (from_end (opposites xs)) (λ j l. rw (length-opposites xs) (sym (coefficient-opposites xs (length xs - 1 - j) (omega arith)))) in
    filled-through (opposite_from_end xs) old now i (all ∙ sym size) e ∙ rw size (same ∙ sym (reverse-list (opposites xs) ∙ ap (λ (n : ℕ). upto n (from_end (opposites xs))) (length-opposites xs)))

pub front_fits : (xs ys : List ℕ) (n : ℕ) → length xs ≡ n → n ≤ length (xs ++ ys)
front_fits xs ys n size = simp length-append (omega arith)
