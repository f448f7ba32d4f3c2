-- Laws of the loops that read numbers. Assumes nothing.
--     Going cs i value end         the digits from place i up to end have been read, and come to value
--     going-turn                   a turn
--     going-begins                 a run begins
--     going-stops, going-ended     a run that stops at a byte that is no digit, or with the text
--     fits_told, large-told        what is said of a number
--     going-larger                 a number is not below what its first digits come to
--     Sought most room cs i n      no place before i is bad, and n numbers stand there; a digit at i follows none
--     sought-begins                so it is at the start
--     sought-blank, sought-run     and after a blank; after a run
--     sought-stray, sought-large, sought-many, sought-ended
--                                  what the outcome is where the search stops
--     Writing cs i n old now       the numbers before place i, n of them, stand in the list
--     writing_begins, writing-passed, writing-run, writing-ended
--                                  so it is at the start; after a byte that is no digit; after a run; and all of them do
--     clean-small, writing-small, writing-room
--                                  where nothing is bad, a number that begins is not too large, and there is room for it
--     counted-clean                where the numbers are counted, nothing is bad
--     reads-list, reads_nothing    the promise of reading, from the outcome and the list
use Rattle.std.specs.Prelude.{ℕ, zero, suc, ◌+◌, ◌-◌, ◌*◌, ◌≤◌, ◌<◌, ◌≡◌, Bool, true, false, not, List, [], ◌∷◌, ◌++◌, leb, ltb, length, set, drop, refl, Option, Some, None, Result, Ok, Err}
use Rattle.std.proofs.Common.{sym, ap, ◌∙◌, true≢false, zero-add, add-one, arith, length-drop, drop_of_length-le, drop-cons, lt-ltb, le-ltb, ltb-false, le-leb, leb-false}
use Rattle.std.proofs.Math.Nat.{sub-zero}
use Rattle.std.proofs.Math.Bool.{and-false}
use Rattle.std.proofs.Math.Decide.{ℕ_discrete, dec_lt}
use Rattle.std.proofs.lemmas.Bool.{lt-leb}
use Rattle.polynomials.specs.Indices.{pick, filled, first}
use Rattle.polynomials.specs.IndexLaws.{filled_more, first_found, first-passed, first_ended, first-none}
use Rattle.polynomials.specs.Lists.{coefficient}
use Rattle.polynomials.specs.Tests.{neither}
use Rattle.polynomials.specs.ListLaws.{coefficients, coefficient-past}
use Rattle.layout.specs.Decimals.{is_digit, reading, numbers_in}
use Rattle.texts.specs.Kinds.{is_blank}
use Rattle.texts.specs.KindLaws.{digit-no-blank}
use Rattle.texts.specs.Reading.{stray_at, follows_digit, number_from, numbers_before, large_at, many_at, bad_at, outcome_at, outcome, left_of, ReadsNumbers}
use Rattle.texts.specs.Runs.{RunAt, NumberSays, Clean, NumbersStand}
use Rattle.texts.specs.declared.reading.Run.{Run}
use Rattle.texts.specs.declared.reading.Stop.{Stop}
use Rattle.texts.specs.declared.reading.Stop.TheVariants.{Stray, Large, Many}

-- ---- one number

pub record Going (cs : List ℕ) (i value end : ℕ) : Type 0 where
  pub low : i ≤ end
  pub inside : end ≤ length cs
  pub all : (j : ℕ) → i ≤ j → j < end → is_digit (coefficient cs j) ≡ true
  pub rest : numbers_in (drop i cs) ≡ reading true value (drop end cs)

pub going-begins : (cs : List ℕ) (i : ℕ) → i < length cs → is_digit (coefficient cs i) ≡ true → Going cs i 0 i
going-begins cs i h d =
    record {
      low = omega arith;
      inside = omega arith;
      all = λ j a b. absurd (omega arith);
      rest = rw (drop-cons cs i 0 h, d, zero-add);
    }

pub going-ended : (cs : List ℕ) (i value end : ℕ) → i < length cs → length cs ≤ end → Going cs i value end → RunAt cs i value end
going-ended cs i value end h ended g =
    record {
      after = omega arith;
      inside = g.inside;
      all = g.all;
      stops = λ l. absurd (omega arith);
      rest = g.rest ∙ rw (drop_of_length-le cs {i = end} ended);
    }

module _ {cs : List ℕ} {i value end : ℕ} (g : Going cs i value end) where
  pub going-turn : end < length cs → is_digit (coefficient cs end) ≡ true → Going cs i (value * 10 + (coefficient cs end - 48)) (end + 1)
  going-turn h d =
      record {
        low = omega (arith, g.low);
        inside = omega arith;
        all = λ j a b. next j a b (ℕ_discrete j end);
        rest = g.rest ∙ (rw (drop-cons cs end 0 h, d, add-one end));
      }
    where
      next : (j : ℕ) → i ≤ j → j < end + 1 → Dec (j ≡ end) → is_digit (coefficient cs j) ≡ true
      next j a b (yes e) = rw e d
      next j a b (no e) = g.all j a (omega arith)

  pub going-stops : end < length cs → is_digit (coefficient cs i) ≡ true → is_digit (coefficient cs end) ≡ false → RunAt cs i value end
  going-stops h d stop =
      record {
        after = grind (arith, g.low);
        inside = g.inside;
        all = g.all;
        stops = λ l. stop;
        rest = g.rest ∙ (rw (drop-cons cs end 0 h, stop));
      }

reading-least : (v : ℕ) (cs : List ℕ) → v ≤ coefficient (reading true v cs) 0
reading-least v [] = omega arith
reading-least v (c ∷ cs) = go (is_digit c) (reading-least (v * 10 + (c - 48)) cs)
  where
    go : (b : Bool) → v * 10 + (c - 48) ≤ coefficient (reading true (v * 10 + (c - 48)) cs) 0
        → v ≤ coefficient (pick b (reading true (v * 10 + (c - 48)) cs) (v ∷ reading false 0 cs)) 0
    go true h = omega arith
    go false h = omega arith

pub going-larger : {cs : List ℕ} {i value end : ℕ} → Going cs i value end → end < length cs → is_digit (coefficient cs end) ≡ true
    → value * 10 + (coefficient cs end - 48) ≤ number_from cs i
going-larger {cs} {i} {value} {end} g h d =
    let next = going-turn g h d in
    rw next.rest (reading-least (value * 10 + (coefficient cs end - 48)) (drop (end + 1) cs))

pub fits_told : (most : ℕ) (cs : List ℕ) (i : ℕ) (r : Option Run) (x : Run) → NumberSays most cs i r → r ≡ Some x → RunAt cs i x.value x.end × (x.value ≤ most)
fits_told most cs i r x h e = rw e at h

pub large-told : (most : ℕ) (cs : List ℕ) (i : ℕ) (r : Option Run) → NumberSays most cs i r → r ≡ None → most < number_from cs i
large-told most cs i r h e = rw e at h

-- ---- what is bad at a place

-- no digit, but a blank
blank-fine : (most room : ℕ) (cs : List ℕ) (i : ℕ) → is_blank (coefficient cs i) ≡ true → is_digit (coefficient cs i) ≡ false → bad_at most room cs i ≡ false
unfolding bad_at
blank-fine most room cs i b d = rw (b, d)

-- a digit that follows another
inner-fine : (most room : ℕ) (cs : List ℕ) (i : ℕ) → is_digit (coefficient cs i) ≡ true → follows_digit cs i ≡ true → bad_at most room cs i ≡ false
unfolding bad_at
inner-fine most room cs i d f = rw (digit-no-blank (coefficient cs i) d, d, f)

-- a digit that begins a number which is not too large and for which there is room
begun-fine : (most room : ℕ) (cs : List ℕ) (i : ℕ) → is_digit (coefficient cs i) ≡ true → number_from cs i ≤ most → numbers_before cs i < room → bad_at most room cs i ≡ false
unfolding bad_at
begun-fine most room cs i d v n =
    rw (digit-no-blank (coefficient cs i) d, d, le-ltb most (number_from cs i) v, lt-leb room (numbers_before cs i) n, and-false (not (follows_digit cs i)))

-- ---- a digit that follows none

-- after a byte that is none
fresh-passed : (cs : List ℕ) (i : ℕ) → is_digit (coefficient cs i) ≡ false → is_digit (coefficient cs (i + 1)) ≡ true → follows_digit cs (i + 1) ≡ false
fresh-passed cs i d l = ap (follows_digit cs) (add-one i) ∙ d

-- after a run there is none at all
fresh-run : {cs : List ℕ} {i value end : ℕ} → RunAt cs i value end → is_digit (coefficient cs end) ≡ true → follows_digit cs end ≡ false
fresh-run {cs} {i} {value} {end} r d = absurd (stopped (dec_lt end (length cs)))
  where
    stopped : Dec (end < length cs) → ⊥
    stopped (yes l) = true≢false (sym d ∙ r.stops l)
    stopped (no l) = true≢false (sym d ∙ ap is_digit (coefficient-past cs end (omega arith)))

-- ---- the search for a bad place

skip : (test : ℕ → Bool) (e i m : ℕ) → i + m ≤ e → ((j : ℕ) → i ≤ j → j < i + m → test j ≡ false) → first test (e - i) i ≡ first test (e - (i + m)) (i + m)
skip test e i zero h none =
    let here : i + 0 ≡ i = omega arith in
    rw here
skip test e i (suc m) h none =
    let up : i + suc m ≡ i + 1 + m = omega arith in
    first-passed test e i (omega arith) (none i (omega arith) (omega arith)) ∙ skip test e (i + 1) m (omega arith) (λ j a b. none j (omega arith) (omega arith)) ∙ rw up

pub record Sought (most room : ℕ) (cs : List ℕ) (i n : ℕ) : Type 0 where
  pub inside : i ≤ length cs
  pub bad : first (bad_at most room cs) (length cs) 0 ≡ first (bad_at most room cs) (length cs - i) i
  pub count : n + length (numbers_in (drop i cs)) ≡ length (numbers_in cs)
  pub fits : n ≤ room
  pub fresh : is_digit (coefficient cs i) ≡ true → follows_digit cs i ≡ false

pub sought-begins : (most room : ℕ) (cs : List ℕ) → Sought most room cs 0 0
sought-begins most room cs =
    record {
      inside = omega arith;
      bad = rw sub-zero;
      count = omega arith;
      fits = omega arith;
      fresh = λ d. refl;
    }

from-run : {cs : List ℕ} {i value end : ℕ} → RunAt cs i value end → number_from cs i ≡ value
from-run r = ap (λ (ns : List ℕ). coefficient ns 0) r.rest

module _ {most room : ℕ} {cs : List ℕ} {i n : ℕ} (s : Sought most room cs i n) where
  pub sought-blank : i < length cs → is_blank (coefficient cs i) ≡ true → is_digit (coefficient cs i) ≡ false → Sought most room cs (i + 1) n
  sought-blank h b d =
      record {
        inside = omega arith;
        bad = s.bad ∙ first-passed (bad_at most room cs) (length cs) i h (blank-fine most room cs i b d);
        count = ap (λ (ns : List ℕ). n + length ns) (sym rest) ∙ s.count;
        fits = s.fits;
        fresh = fresh-passed cs i d;
      }
    where
      rest : numbers_in (drop i cs) ≡ numbers_in (drop (i + 1) cs)
      rest = rw (drop-cons cs i 0 h, d, add-one i)

  -- the numbers that stand before the place where a run begins
  before-run : numbers_before cs i ≡ n
  before-run = omega (arith, s.count)

  module _ {value end : ℕ} (r : RunAt cs i value end) (small : value ≤ most) where
    low : number_from cs i ≤ most
    low = rw (from-run r) small

    begun : is_digit (coefficient cs i) ≡ true
    begun = r.all i (omega arith) r.after

    module _ (left : n < room) where
      run-fine : (j : ℕ) → i ≤ j → j < end → bad_at most room cs j ≡ false
      run-fine j a b = go j a b (ℕ_discrete i j)
        where
          go : (j : ℕ) → i ≤ j → j < end → Dec (i ≡ j) → bad_at most room cs j ≡ false
          go j a b (yes e) = rw (← e) (begun-fine most room cs i begun low (rw before-run left))
          go zero a b (no e) = absurd (e (omega arith))
          go (suc j) a b (no e) = inner-fine most room cs (suc j) (r.all (suc j) a b) (r.all j (omega arith) (omega arith))

      pub sought-run : Sought most room cs end (n + 1)
      sought-run =
          let size : i + (end - i) ≡ end = omega (arith, r.after) in
          record {
            inside = r.inside;
            bad = s.bad ∙ (rw size at (skip (bad_at most room cs) (length cs) i (end - i) (rw size r.inside) (λ j a b. run-fine j a (omega arith))));
            count = omega (arith, s.count, ap length r.rest);
            fits = omega arith;
            fresh = fresh-run r;
          }

  -- ---- where the search stops

  module _ (h : i < length cs) where
    at-bad : bad_at most room cs i ≡ true → outcome most room cs ≡ Err (pick (stray_at cs i) (Stray i) (pick (large_at most cs i) (Large i) (Many i)))
    unfolding outcome outcome_at
    at-bad b = rw (s.bad ∙ first_found (bad_at most room cs) (length cs) i h b, lt-ltb i (length cs) h)

    pub sought-stray : stray_at cs i ≡ true → outcome most room cs ≡ Err (Stray i)
    unfolding bad_at
    sought-stray e =
        let bad : bad_at most room cs i ≡ true = rw e in
        at-bad bad ∙ rw e

    module _ (d : is_digit (coefficient cs i) ≡ true) where
      no-stray : stray_at cs i ≡ false
      no-stray = rw (digit-no-blank (coefficient cs i) d, d)

      pub sought-large : most < number_from cs i → outcome most room cs ≡ Err (Large i)
      unfolding bad_at
      sought-large v =
          let large : large_at most cs i ≡ true = rw (d, s.fresh d, lt-ltb most (number_from cs i) v) in
          let bad : bad_at most room cs i ≡ true = rw (no-stray, large) in
          at-bad bad ∙ rw (no-stray, large)

    pub sought-many : {value end : ℕ} → RunAt cs i value end → value ≤ most → room ≤ n → outcome most room cs ≡ Err (Many i)
    unfolding bad_at
    sought-many r small full =
        let d = begun r small in
        let none = no-stray d in
        let fits : large_at most cs i ≡ false = rw (d, s.fresh d, le-ltb most (number_from cs i) (low r small)) in
        let many : many_at room cs i ≡ true = rw (d, s.fresh d, le-leb room (numbers_before cs i) (rw before-run full)) in
        let bad : bad_at most room cs i ≡ true = rw (none, fits, many) in
        at-bad bad ∙ rw (none, fits)

  pub sought-ended : length cs ≤ i → outcome most room cs ≡ Ok n
  unfolding outcome outcome_at
  sought-ended h =
      let all : n ≡ length (numbers_in cs) = omega (arith, s.count, ap (λ (xs : List ℕ). length (numbers_in xs)) (drop_of_length-le cs {i = i} h)) in
      rw (s.bad ∙ first_ended (bad_at most room cs) (length cs) i h, le-ltb i (length cs) h, all)

-- ---- the numbers, written

pub record Writing (cs : List ℕ) (i n : ℕ) (old now : List ℕ) : Type 0 where
  pub inside : i ≤ length cs
  pub some : n ≤ length (numbers_in cs)
  pub rest : drop n (numbers_in cs) ≡ numbers_in (drop i cs)
  pub listed : now ≡ filled n (coefficient (numbers_in cs)) old
  pub fresh : is_digit (coefficient cs i) ≡ true → follows_digit cs i ≡ false

next-number : (ns : List ℕ) (n value : ℕ) (rest : List ℕ) → drop n ns ≡ value ∷ rest → (n < length ns) × (value ≡ coefficient ns n) × (drop (suc n) ns ≡ rest)
next-number [] zero value rest e = absurd (omega (arith, ap length e))
next-number [] (suc n) value rest e = absurd (omega (arith, ap length e))
next-number (x ∷ ns) zero value rest e = (omega arith, sym (ap (λ (l : List ℕ). coefficient l 0) e), ap (drop 1) e)
next-number (x ∷ ns) (suc n) value rest e =
    let r = next-number ns n value rest e in
    (omega (arith, r.0), r.1, r.2)

-- where nothing is bad, a number that begins is not too large, and there is room for it
begun-clean : (most room : ℕ) (cs : List ℕ) (i : ℕ) → is_digit (coefficient cs i) ≡ true → follows_digit cs i ≡ false → bad_at most room cs i ≡ false
    → (number_from cs i ≤ most) × (numbers_before cs i < room)
unfolding bad_at
begun-clean most room cs i d f e =
    let both = neither (ltb most (number_from cs i)) (leb room (numbers_before cs i)) (rw (digit-no-blank (coefficient cs i) d, d, f) at e) in
    (ltb-false most (number_from cs i) both.0, leb-false room (numbers_before cs i) both.1)

pub clean-small : (most room : ℕ) (cs : List ℕ) (i : ℕ) → i < length cs → is_digit (coefficient cs i) ≡ true → follows_digit cs i ≡ false → Clean most room cs
    → number_from cs i ≤ most
clean-small most room cs i h d f clean = (begun-clean most room cs i d f (clean i h)).0

pub writing_begins : (cs old : List ℕ) → Writing cs 0 0 old old
writing_begins cs old = record { inside = omega arith; some = omega arith; rest = refl; listed = refl; fresh = λ d. refl }

module _ {cs : List ℕ} {i n : ℕ} {old now : List ℕ} (w : Writing cs i n old now) where
  pub writing-passed : i < length cs → is_digit (coefficient cs i) ≡ false → Writing cs (i + 1) n old now
  writing-passed h d =
      record {
        inside = omega arith;
        some = w.some;
        rest = w.rest ∙ (rw (drop-cons cs i 0 h, d, add-one i));
        listed = w.listed;
        fresh = fresh-passed cs i d;
      }

  pub writing-small : (most : ℕ) → i < length cs → is_digit (coefficient cs i) ≡ true → Clean most (length old) cs → number_from cs i ≤ most
  writing-small most h d clean = (begun-clean most (length old) cs i d (w.fresh d) (clean i h)).0

  module _ {value end : ℕ} (r : RunAt cs i value end) where
    one : (n < length (numbers_in cs)) × (value ≡ coefficient (numbers_in cs) n) × (drop (suc n) (numbers_in cs) ≡ numbers_in (drop end cs))
    one = next-number (numbers_in cs) n value (numbers_in (drop end cs)) (w.rest ∙ r.rest)

    pub writing-room : (most : ℕ) → Clean most (length old) cs → n < length old
    writing-room most clean =
        let d = r.all i (omega arith) r.after in
        let room = (begun-clean most (length old) cs i d (w.fresh d) (clean i (omega (arith, r.after, r.inside)))).1 in
        omega (arith, room, one.0, ap length w.rest, length-drop n (numbers_in cs))

    pub writing-run : n < length old → Writing cs end (n + 1) old (set now n value)
    writing-run room =
        record {
          inside = r.inside;
          some = omega (arith, one.0);
          rest = rw (add-one n) one.2;
          listed = filled_more (coefficient (numbers_in cs)) old now n value room w.listed one.1;
          fresh = fresh-run r;
        }

  pub writing-ended : length cs ≤ i → NumbersStand (numbers_in cs) old now
  writing-ended h =
      let ns : List ℕ = numbers_in cs in
      let none : length (numbers_in (drop i cs)) ≡ 0 = rw (drop_of_length-le cs {i = i} h) in
      let all : n ≡ length ns = omega (arith, length-drop n ns, ap length w.rest, none, w.some) in
      w.listed ∙ ap (λ (m : ℕ). filled m (coefficient ns) old) all ∙ ap (λ (xs : List ℕ). xs ++ drop (length ns) old) (coefficients ns)

-- ---- the whole reading

pub counted-clean : (most room : ℕ) (cs : List ℕ) (n : ℕ) → outcome most room cs ≡ Ok n → Clean most room cs
unfolding outcome outcome_at
counted-clean most room cs n e = (first-none (bad_at most room cs) (length cs)).0 (go (dec_lt bad (length cs)))
  where
    bad : ℕ
    bad = first (bad_at most room cs) (length cs) 0

    go : Dec (bad < length cs) → length cs ≤ bad
    go (yes l) = let stopped = rw (lt-ltb bad (length cs) l) at e in cc
    go (no l) = omega arith

pub reads-list : (most : ℕ) (cs old : List ℕ) (found : Result ℕ Stop) (n : ℕ) (after : List ℕ) → found ≡ outcome most (length old) cs → found ≡ Ok n
    → NumbersStand (numbers_in cs) old after → ReadsNumbers most cs old (Ok n) after
reads-list most cs old found n after o e l = record { answer = sym e ∙ o; list = rw (sym o ∙ e) l }

-- where reading stops the list is left
pub reads_nothing : (most : ℕ) (cs old : List ℕ) (found r : Result ℕ Stop) → found ≡ outcome most (length old) cs → found ≡ r → old ≡ left_of r (numbers_in cs) old
    → ReadsNumbers most cs old r old
reads_nothing most cs old found r o e l = record { answer = sym e ∙ o; list = rw (sym o ∙ e) l }
