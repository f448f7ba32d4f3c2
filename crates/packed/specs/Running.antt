-- "The running record": fresh, feed, close. A record holds the setting and a sum: the total of pairs, one unreduced word, 15 residues.
--     open_pairs s u                 r = total mod n, the pairs of the open batch
--     residue_most, residues_cause    residues below p, and zero from index 2k-1 on; that one is not
--     field_most, fields_cause        field j of the word at most r min(j+1, 2k-1-j) (p-1)^2; that one is not
--     sum_cause, record_cause         12 Record: a record that is not coherent
--     Coherent s u                  coherent, in words: RunningLaws shows that 12 is given exactly where it does not hold
--     closing_of p q w rs j          (residue + field) mod p; closing_at s u j, of a sum
--     split s u                     the word is split, its fields are added to the residues modulo p, and the word is zero
--     with_pair, after_pair           one pair: its product is added in the word; as soon as the open batch has n pairs the word is split
--     after_pairs s u cs             one pair after the other
--     fed_pairs s xs ys              the pairs of two flat lists, k coefficients per polynomial, as packing takes them
--     pairs_cause k m n              9 Shape: the lengths m and n of the flat lists differ, or are no multiple of k
--     record_full_cause total pairs   13 Full: the total would pass 1,000,000
--     pair_checks r xs ys            12, 9, 13, 8; feed_checks, these, then 18
--     close_checks r len             12, 10: a list of len elements is lent for the 2k-1 coefficients
--     feed-gives, close-gives       the numbers that these can give, and no other
--     record_check r                12 alone
--     kept_by v new old              the record afterwards: as it was on a refusal, else the new one
--     fed r a                       the record after a feed, and what it answered
--     fresh_sum, record_of s u        in a fresh record all but the setting is zero; the record of a setting and a sum
--     Freshens, Feeds, Closes       the promises of fresh, feed, close; fresh-once, feed-once, close-once: each allows one result only
use Rattle.std.specs.Prelude.{ℕ, ◌+◌, ◌-◌, ◌*◌, ◌/◌, ◌%◌, ◌^◌, ◌≤◌, ◌<◌, ◌≡◌, Bool, not, ◌||◌, List, [], ◌∷◌, ltb, eqb, length, replicate, Result}
use Rattle.std.proofs.Common.{sym, ap, ◌∙◌}
use Rattle.polynomials.specs.Indices.{pick, upto, filled, exceeds, rounded_up}
use Rattle.polynomials.specs.Lists.{coefficient, Below, Pair, batch_most}
use Rattle.polynomials.specs.Places.{packed, field}
use Rattle.polynomials.specs.Pairs.{pairs_of}
use Rattle.settings.specs.Limits.{most_pairs, residue_places}
use Rattle.settings.specs.Answers.{answered, refused, Verdict, fine, refuse, refuses, ◌and_then◌, left_by, Given}
use Rattle.settings.specs.AnswerLaws.{given-check, given-then}
use Rattle.settings.specs.SharedAnswers.{short_cause}
use Rattle.settings.specs.Settings.{setting_checks, base, places, span_of, check-once}
use Rattle.settings.specs.Coefficients.{coefficients_check, coefficients-gives}
use Rattle.packed.specs.Taken.{taken}
use Rattle.words.specs.Places.{word_cause}
use Rattle.packed.specs.Overflow.{feed_overflow}
use Rattle.settings.specs.declared.setting.Setting.{Setting}
use Rattle.packed.specs.declared.running.Sum.{Sum}
use Rattle.packed.specs.declared.running.Record.{Record}
use Rattle.packed.specs.declared.running.Begun.{Begun}
use Rattle.packed.specs.declared.running.Fed.{Fed}
use Rattle.settings.specs.Refusals.{says, says-once}
use Rattle.settings.specs.declared.refusals.Refusal.{Refusal}

-- ---- 12

abbrev pub open_pairs : Setting → Sum → ℕ
open_pairs s u = u.total % s.n

abbrev pub residue_most : Setting → ℕ → ℕ
residue_most s j = pick (ltb j (places s)) (s.p - 1) 0

abbrev pub residues_cause : Setting → List ℕ → Bool
residues_cause s rs = exceeds (length rs) (coefficient rs) (residue_most s)

abbrev pub field_most : Setting → ℕ → ℕ → ℕ
field_most s r j = batch_most s.p s.k r j

abbrev pub fields_cause : Setting → ℕ → ℕ → Bool
fields_cause s r w = exceeds (places s) (field (base s) w) (field_most s r)

unfoldable pub sum_cause : Setting → Sum → Bool
sum_cause s u = ltb most_pairs u.total || (residues_cause s u.residues || (fields_cause s (open_pairs s u) u.word || word_cause s u.word))

unfoldable pub record_cause : Record → Bool
record_cause r = refuses (setting_checks r.setting) || sum_cause r.setting r.sum

pub record Coherent (s : Setting) (u : Sum) : Type 0 where
  pub accepted : setting_checks s ≡ fine
  pub few : u.total ≤ most_pairs
  pub residues_below : Below s.p u.residues
  pub residues_zero : (j : ℕ) → places s ≤ j → coefficient u.residues j ≡ 0
  pub fields_most : (j : ℕ) → j < places s → field (base s) u.word j ≤ field_most s (open_pairs s u) j
  pub word_below : u.word < 2 ^ span_of s

-- ---- pairs

abbrev pub closing_of : ℕ → ℕ → ℕ → List ℕ → ℕ → ℕ
closing_of p q w rs j = (coefficient rs j + field q w j) % p

abbrev pub closing_at : Setting → Sum → ℕ → ℕ
closing_at s u = closing_of s.p (base s) u.word u.residues

abbrev pub split : Setting → Sum → Sum
split s u = record { total = u.total; word = 0; residues = filled (places s) (closing_at s u) u.residues }

abbrev pub with_pair : Setting → Sum → Pair → Sum
with_pair s u c = record { total = u.total + 1; word = u.word + packed (base s) c.left * packed (base s) c.right; residues = u.residues }

abbrev pub after_pair : Setting → Sum → Pair → Sum
after_pair s u c =
    let v : Sum = with_pair s u c in
    pick (eqb (open_pairs s v) 0) (split s v) v

unfoldable pub after_pairs : Setting → Sum → List Pair → Sum
after_pairs s u [] = u
after_pairs s u (c ∷ cs) = after_pairs s (after_pair s u c) cs

abbrev pub fed_pairs : Setting → List ℕ → List ℕ → List Pair
fed_pairs s xs ys = pairs_of s.k (taken s.p xs) (taken s.p ys)

-- ---- checks

abbrev pub pairs_cause : ℕ → ℕ → ℕ → Bool
pairs_cause k m n = not (eqb m n) || not (eqb (m % k) 0)

abbrev pub record_full_cause : ℕ → ℕ → Bool
record_full_cause total pairs = ltb most_pairs (total + pairs)

-- 12 alone
abbrev pub record_check : Record → Verdict
record_check r = refuse (record_cause r) 12 0

unfoldable pub pair_checks : Record → List ℕ → List ℕ → Verdict
pair_checks r xs ys =
    refuse (record_cause r) 12 0
    and_then refuse (pairs_cause r.setting.k (length xs) (length ys)) 9 0
    and_then refuse (record_full_cause r.sum.total (length xs / r.setting.k)) 13 0
    and_then coefficients_check r.setting.p xs ys

unfoldable pub feed_checks : Record → List ℕ → List ℕ → Verdict
feed_checks r xs ys = pair_checks r xs ys and_then refuse (feed_overflow r.setting (open_pairs r.setting r.sum) r.sum.word xs ys) 18 0

unfoldable pub close_checks : Record → ℕ → Verdict
close_checks r len = refuse (record_cause r) 12 0 and_then refuse (short_cause (places r.setting) len) 10 0

pub feed-gives : (r : Record) (xs ys : List ℕ) → Given (12 ∷ 9 ∷ 13 ∷ 8 ∷ 18 ∷ []) (feed_checks r xs ys)
unfolding feed_checks pair_checks
feed-gives r xs ys =
    given-then
    (given-then (given-check (record_cause r) 12 0)
    (given-then (given-check (pairs_cause r.setting.k (length xs) (length ys)) 9 0)
    (given-then (given-check (record_full_cause r.sum.total (length xs / r.setting.k)) 13 0) (coefficients-gives r.setting.p xs ys))))
    (given-check (feed_overflow r.setting (open_pairs r.setting r.sum) r.sum.word xs ys) 18 0)

pub close-gives : (r : Record) (len : ℕ) → Given (12 ∷ 10 ∷ []) (close_checks r len)
unfolding close_checks
close-gives r len = given-then (given-check (record_cause r) 12 0) (given-check (short_cause (places r.setting) len) 10 0)

-- ---- answers

abbrev pub kept_by : Verdict → Record → Record → Record
kept_by (answered u) new old = new
kept_by (refused number place) new old = old

-- ---- fresh

abbrev pub fresh_sum : Sum
fresh_sum = record { total = 0; word = 0; residues = replicate residue_places 0 }

abbrev pub record_of : Setting → Sum → Record
record_of s u = record { setting = s; sum = u }

abbrev pub Freshens : Setting → Begun → Type 0
Freshens s b = (says b.answer ≡ setting_checks s) × (b.running ≡ record_of s fresh_sum)

pub fresh-once : (s : Setting) (a b : Begun) → Freshens s a → Freshens s b → a ≡ b
fresh-once s a b ha hb = ap (λ (r : Record). made r a.answer) (ha.1 ∙ sym hb.1) ∙ ap (made b.running) (check-once s a.answer b.answer ha.0 hb.0)
  where
    made : Record → Result (Unit {0}) Refusal → Begun
    made r c = record { running = r; answer = c }

-- ---- feed

abbrev pub fed : Record → Result ℕ Refusal → Fed
fed r a = record { running = r; answer = a }

abbrev pub Feeds : Record → List ℕ → List ℕ → Fed → Type 0
Feeds r xs ys f =
    (says f.answer ≡ (feed_checks r xs ys and_then answered (length xs / r.setting.k)))
    × (f.running ≡ kept_by (feed_checks r xs ys) (record_of r.setting (after_pairs r.setting r.sum (fed_pairs r.setting xs ys))) r)

pub feed-once : (r : Record) (xs ys : List ℕ) (a b : Fed) → Feeds r xs ys a → Feeds r xs ys b → a ≡ b
feed-once r xs ys a b ha hb = ap (λ (r : Record). fed r a.answer) (ha.1 ∙ sym hb.1) ∙ ap (fed b.running) (says-once a.answer b.answer _ ha.0 hb.0)

-- ---- close

abbrev pub Closes : Record → List ℕ → Result ℕ Refusal → List ℕ → Type 0
Closes r old a after =
    (says a ≡ (close_checks r (length old) and_then answered (rounded_up r.sum.total r.setting.n)))
    × (after ≡ left_by (close_checks r (length old)) (upto (places r.setting) (closing_at r.setting r.sum)) old)

pub close-once : (r : Record) (old : List ℕ) (a b : Result ℕ Refusal) (x y : List ℕ) → Closes r old a x → Closes r old b y → (a ≡ b) × (x ≡ y)
close-once r old a b x y ha hb = (says-once a b _ ha.0 hb.0, ha.1 ∙ sym hb.1)
