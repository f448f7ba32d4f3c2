-- How a buffer begins. Assumes nothing.
--     starts_with buf bs         the buffer starts with exactly these bytes; later ones are not looked at
--     differs_at buf bs i        at place i it does not: it has ended, or another byte stands there
--     first_difference buf bs    the first place of bs where it differs, and the length of bs where there is none
--     differs-ended, differs-byte, agrees
--                               the two ways to differ, and neither
--     starts-with               starts_with says that cutting the buffer to their length gives the bytes
--     starts-with-first         a search for the first difference tells it
--     first-difference          the first differing byte, or the buffer's length if it ends first
use Rattle.std.specs.Prelude.{ℕ, ◌≤◌, ◌<◌, ◌≡◌, refl, Bool, true, false, not, ◌||◌, ◌&&◌, List, [], ◌∷◌, ◌↔◌, leb, eqb, length, take, drop}
use Rattle.std.proofs.Common.{sym, ap, ◌∙◌, true≢false, arith, length-take, get_or-take, take_all, length-take-le, le-leb, leb-false, eq-eqb, ne_eqb, eqb-true}
use Rattle.std.proofs.Math.Bool.{or-true, and-eq-true_iff}
use Rattle.std.proofs.Math.Decide.{dec_le}
use Rattle.std.proofs.lemmas.Bool.{lt-leb, not-false}
use Rattle.polynomials.specs.Tests.{neither}
use Rattle.polynomials.specs.Indices.{first}
use Rattle.polynomials.specs.IndexLaws.{first-is, first-only, first-none}
use Rattle.polynomials.specs.Lists.{coefficient}
use Rattle.polynomials.specs.ListLaws.{lists_agree}

abbrev pub starts_with : List ℕ → List ℕ → Bool
starts_with buf [] = true
starts_with [] (b ∷ bs) = false
starts_with (x ∷ buf) (b ∷ bs) = eqb x b && starts_with buf bs

abbrev pub differs_at : List ℕ → List ℕ → ℕ → Bool
differs_at buf bs i = leb (length buf) i || not (eqb (coefficient buf i) (coefficient bs i))

abbrev pub first_difference : List ℕ → List ℕ → ℕ
first_difference buf bs = first (differs_at buf bs) (length bs) 0

-- ---- at one place

module _ (buf bs : List ℕ) (i : ℕ) where
  pub differs-ended : length buf ≤ i → differs_at buf bs i ≡ true
  differs-ended h = rw (le-leb (length buf) i h)

  pub differs-byte : (coefficient buf i ≡ coefficient bs i → ⊥) → differs_at buf bs i ≡ true
  differs-byte h = rw (ne_eqb (coefficient buf i) (coefficient bs i) h) (or-true (leb (length buf) i))

  pub agrees : (differs_at buf bs i ≡ false) ↔ ((i < length buf) × (coefficient buf i ≡ coefficient bs i))
  agrees = (
    λ e. let both = neither (leb (length buf) i) _ e in
        (leb-false (length buf) i both.0, eqb-true (coefficient buf i) (coefficient bs i) (not-false _ both.1)),
    λ h. rw (lt-leb (length buf) i h.0, eq-eqb (coefficient buf i) (coefficient bs i) h.1),
  )

-- ---- at all of them

cut : (buf bs : List ℕ) → starts_with buf bs ≡ true → take (length bs) buf ≡ bs
cut buf [] e = refl
cut [] (b ∷ bs) e = absurd (true≢false (sym e))
cut (x ∷ buf) (b ∷ bs) e =
    let both = (and-eq-true_iff (eqb x b) (starts_with buf bs)).0 e in
    rw (eqb-true x b both.0, cut buf bs both.1)

join : (buf bs : List ℕ) → take (length bs) buf ≡ bs → starts_with buf bs ≡ true
join buf [] e = refl
join [] (b ∷ bs) e = let sizes = ap length e in absurd (omega arith)
join (x ∷ buf) (b ∷ bs) e =
    rw (eq-eqb x b (ap (λ (l : List ℕ). coefficient l 0) e), join buf bs (ap (drop 1) e))

pub starts-with : (buf bs : List ℕ) → (starts_with buf bs ≡ true) ↔ (take (length bs) buf ≡ bs)
starts-with buf bs = (cut buf bs, join buf bs)

-- the search is through: no place differs
through : (buf bs : List ℕ) → length bs ≤ first_difference buf bs → take (length bs) buf ≡ bs
through buf bs h = go (dec_le (length bs) (length buf))
  where
    at : (i : ℕ) → i < length bs → (i < length buf) × (coefficient buf i ≡ coefficient bs i)
    at i l = (agrees buf bs i).0 ((first-none (differs_at buf bs) (length bs)).0 h i l)

    go : Dec (length bs ≤ length buf) → take (length bs) buf ≡ bs
    go (yes l) =
        let size : length (take (length bs) buf) ≡ length bs = length-take-le (length bs) buf l in
        lists_agree (take (length bs) buf) bs size (λ i g. get_or-take (length bs) buf i 0 (omega arith) ∙ (at i (omega arith)).1)
    go (no l) = let ended = (at (length buf) (omega arith)).0 in absurd (omega arith)

-- the place where the beginnings part
pub first-difference : (buf bs : List ℕ) (i : ℕ) → i ≤ length bs → take i buf ≡ take i bs → i ≤ length buf → (i < length bs → differs_at buf bs i ≡ true)
    → first_difference buf bs ≡ i
first-difference buf bs i h same room parts =
    first-only (differs_at buf bs) (length bs) 0 (first_difference buf bs) i (first-is (differs_at buf bs) (length bs) 0)
    (record {
      low = omega arith;
      high = omega arith;
      none_before = λ j a l. (agrees buf bs j).1 (omega arith, sym (get_or-take i buf j 0 l) ∙ ap (λ (xs : List ℕ). coefficient xs j) same ∙ get_or-take i bs j 0 l);
      holds = λ l. parts (omega arith);
    })

pub starts-with-first : (buf bs : List ℕ) → starts_with buf bs ≡ leb (length bs) (first_difference buf bs)
starts-with-first buf bs = go (starts_with buf bs) refl (dec_le (length bs) (first_difference buf bs))
  where
    go : (b : Bool) → starts_with buf bs ≡ b → Dec (length bs ≤ first_difference buf bs) → starts_with buf bs ≡ leb (length bs) (first_difference buf bs)
    go b e (yes h) = join buf bs (through buf bs h) ∙ sym (le-leb (length bs) (first_difference buf bs) h)
    go false e (no h) = e ∙ sym (lt-leb (length bs) (first_difference buf bs) (omega arith))
    go true e (no h) =
        let whole : take (length bs) buf ≡ bs = cut buf bs e in
        let room : length bs ≤ length buf = omega (arith, length-take (length bs) buf, ap length whole) in
        let end = first-difference buf bs (length bs) (omega arith) (whole ∙ sym (take_all (length bs) bs (omega arith))) room (λ l. absurd (omega arith)) in
        absurd (omega arith)
