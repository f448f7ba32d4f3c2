-- Pack and unpack, from their promises alone. Assumes nothing.
--     PackedTo s xs w  what is known where pack has answered the word w for the list xs
--     packed-to        an answered word is made so
--     packed-to-word   11 takes it
--     packed-to-fields its fields are the list, and then k-1 zeros
--     unpack-pack      what pack answers for a list, unpack turns into that list and then k-1 zeros
--     pack-unpack      packing the first k of these fields returns the word
use Rattle.std.specs.Prelude.{ℕ, ◌+◌, ◌-◌, ◌^◌, ◌≤◌, ◌≡◌, refl, false, List, ◌++◌, length, take, drop, replicate, Result, Ok}
use Rattle.std.proofs.Common.{sym, ap, ◌∙◌, append_assoc, lt_of_lt_of_le, arith, length-append, take_at}
use Rattle.std.proofs.lemmas.List.{length-replicate}
use Rattle.std.proofs.lemmas.Bool.{le-ltb, lt-leb, eqb-true, not-false}
use Rattle.polynomials.specs.Lists.{Below}
use Rattle.polynomials.specs.ListLaws.{coefficient-zeros}
use Rattle.polynomials.specs.Places.{packed, field, fields}
use Rattle.polynomials.specs.PlaceLaws.{packed-zeros, packed-below, fields-zeros}
use Rattle.settings.specs.Answers.{fine}
use Rattle.settings.specs.AnswerLaws.{passed, passed_first}
use Rattle.settings.specs.SharedAnswers.{writes-once, writes-filled}
use Rattle.settings.specs.Settings.{setting_checks, base, places, span_of}
use Rattle.settings.specs.Coefficients.{coefficient_check, coefficient-check}
use Rattle.packed.specs.Taken.{taken, taken-below}
use Rattle.words.specs.Places.{word_cause, word_checks, places_checks, Unpacks}
use Rattle.packed.specs.Packing.{shape_cause, pack_answer, Packs, pack-once}
use Rattle.words.specs.WordLaws.{span-power}
use Rattle.settings.specs.Bounds.{bounds}
use Rattle.settings.specs.declared.setting.Setting.{Setting}
use Rattle.settings.specs.declared.refusals.Refusal.{Refusal}

pub record PackedTo (s : Setting) (xs : List ℕ) (w : ℕ) : Type 0 where
  pub accepted : setting_checks s ≡ fine
  pub size : length xs ≡ s.k
  pub below : Below s.p xs
  pub word : w ≡ packed (base s) xs

pub packed-to : (s : Setting) (xs : List ℕ) (w : ℕ) → Packs s xs (Ok w) → PackedTo s xs w
unfolding pack_answer
packed-to s xs w e =
    let a = passed_first (setting_checks s) _ w (sym e) in
    let b = passed (shape_cause s.k xs) 9 0 _ w a.1 in
    let c = passed_first (coefficient_check s.p xs) _ w b.1 in
    let low = (coefficient-check s.p xs (omega (arith, (bounds s a.0).range.choice.p_low))).0 c.0 in
    let made : packed (base s) (taken s.p xs) ≡ w = cc c.1 in
    record {
      accepted = a.0;
      size = eqb-true (length xs) s.k (not-false _ b.0);
      below = low;
      word = sym made ∙ rw (taken-below s.p xs low);
    }

module _ (s : Setting) (xs : List ℕ) (w : ℕ) (made : PackedTo s xs w) where
  all-places : length xs + (s.k - 1) ≡ places s
  all-places = omega (arith, made.size, (bounds s made.accepted).range.choice.k_low)

  below-base : Below (base s) xs
  below-base j = lt_of_lt_of_le (made.below j) (bounds s made.accepted).coefficient_fits

  -- with zeros after them the coefficients are 2k-1 fields below the base
  pub packed-to-word : word_cause s w ≡ false
  packed-to-word =
      let filled-up : List ℕ = xs ++ replicate (s.k - 1) 0 in
      let size : length filled-up ≡ places s = length-append xs (replicate (s.k - 1) 0) ∙ rw length-replicate all-places in
      let below : Below (base s) filled-up = λ j. rw (coefficient-zeros xs (s.k - 1) j) (below-base j) in
      lt-leb (2 ^ span_of s) w (rw (span-power s, made.word, ← size, ← packed-zeros (base s) xs (s.k - 1)) (packed-below (base s) filled-up below))

  pub packed-to-fields : fields (base s) (places s) w ≡ xs ++ replicate (s.k - 1) 0
  packed-to-fields = rw (made.word, ← all-places) (fields-zeros (base s) xs (s.k - 1) below-base)

  made-places : (len : ℕ) → places s ≤ len → places_checks s w len ≡ fine
  unfolding places_checks word_checks
  made-places len h = rw (made.accepted, packed-to-word, le-ltb len (places s) h)

pub unpack-pack : (s : Setting) (xs old after : List ℕ) (w : ℕ) (r : Result ℕ Refusal) → Packs s xs (Ok w) → Unpacks s w old r after → places s ≤ length old
    → (r ≡ Ok (places s)) × (after ≡ xs ++ (replicate (s.k - 1) 0 ++ drop (places s) old))
unpack-pack s xs old after w r packs unpacks h =
    let made = packed-to s xs w packs in
    let checks = places_checks s w (length old) in
    let new = fields (base s) (places s) w in
    let kept = writes-once checks new old r (Ok (places s)) after (new ++ drop (places s) old) unpacks (writes-filled checks (places s) (field (base s) w) old (new ++ drop (places s) old) (made-places s xs w made (length old) h) refl) in
    (kept.0, kept.1 ∙ ap (λ (l : List ℕ). l ++ drop (places s) old) (packed-to-fields s xs w made) ∙ append_assoc xs (replicate (s.k - 1) 0) (drop (places s) old))

pub pack-unpack : (s : Setting) (xs old after : List ℕ) (w : ℕ) (r : Result ℕ Refusal) (again : Result ℕ Refusal) → Packs s xs (Ok w) → Unpacks s w old r after → places s ≤ length old
    → Packs s (take s.k after) again → again ≡ Ok w
pack-unpack s xs old after w r again packs unpacks h packs-again =
    let list = (unpack-pack s xs old after w r packs unpacks h).1 in
    let first-k : take s.k after ≡ xs = ap (take s.k) list ∙ take_at xs (replicate (s.k - 1) 0 ++ drop (places s) old) s.k (packed-to s xs w packs).size in
    pack-once s xs again (Ok w) (rw first-k at packs-again) packs
