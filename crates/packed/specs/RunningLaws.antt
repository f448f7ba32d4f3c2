-- Coherent records, and what pairs do to them. Assumes nothing.
--     coherent-is          12 is given exactly where the record is not coherent
--     residue-within       coherent residues are at most residue_most
--     field-more           adding the products of pairs, up to n in the batch, adds their coefficients field by field
--     open-room            and stays below 2^64
--     after_one            one pair, where it fills the batch and where it does not
--     with_pairs            pairs added up in the word, before any split
--     batch-after          pairs that the open batch takes, one after the other, are added up in the word, and at n pairs it is split
--     after-join           some pairs and then more
--     after-total          the total counts them
--     coherent-after       a coherent record stays coherent
use Rattle.std.specs.Prelude.{ℕ, suc, ◌+◌, ◌-◌, ◌*◌, ◌%◌, ◌^◌, ◌≤◌, ◌<◌, ◌≡◌, refl, Bool, ◌||◌, List, [], ◌∷◌, ◌++◌, ◌↔◌, ltb, eqb}
use Rattle.std.proofs.Common.{zero-le, sym, ap, ◌∙◌, le_trans, lt_of_le_of_lt, add-zero, mod-lt, add-mul, arith, pow_pos}
use Rattle.std.proofs.Math.Bool.{true, false}
use Rattle.std.proofs.Math.Nat.{zero-div, zero-mod}
use Rattle.std.proofs.Math.Decide.{dec_lt}
use Rattle.std.proofs.Math.ListN.{length}
use Rattle.std.proofs.lemmas.Bool.{eq-eqb, ne_eqb, lt-ltb, le-ltb, ltb-false, lt-leb, leb-false}
use Rattle.polynomials.specs.Tests.{neither}
use Rattle.polynomials.specs.Indices.{pick, filled}
use Rattle.polynomials.specs.IndexLaws.{upto-at, upto-past, exceeds-none}
use Rattle.polynomials.specs.Lists.{coefficient, sum, Below, Within, Pair, Pairs, sum_of_products, batch_most, product_most}
use Rattle.polynomials.specs.ListLaws.{coefficient-past, coefficient-sum, filled_at, filled-after}
use Rattle.polynomials.specs.BoundLaws.{batch-most, batch-more}
use Rattle.polynomials.specs.Places.{packed, field, fields, sum_of_words}
use Rattle.polynomials.specs.PlaceLaws.{packed-fields, packed-sum, packed-sum_of_products, field-packed}
use Rattle.polynomials.specs.PairLaws.{remainder-next, remainder-full}
use Rattle.settings.specs.Limits.{most_pairs}
use Rattle.settings.specs.Answers.{fine, refuses}
use Rattle.settings.specs.AnswerLaws.{refuses-none}
use Rattle.settings.specs.Settings.{setting_checks, base, places, span_of}
use Rattle.settings.specs.Bounds.{Bounds, bounds}
use Rattle.words.specs.Places.{word_cause}
use Rattle.words.specs.WordLaws.{span-power, within-span}
use Rattle.packed.specs.Running.{open_pairs, residue_most, residues_cause, field_most, fields_cause, sum_cause, record_cause, Coherent, closing_at, split, with_pair, after_pair, after_pairs}
use Rattle.settings.specs.declared.setting.Setting.{Setting}
use Rattle.packed.specs.declared.running.Sum.{Sum}
use Rattle.packed.specs.declared.running.Record.{Record}

-- ---- 12

pub residue-within : (s : Setting) (u : Sum) → Coherent s u → (j : ℕ) → coefficient u.residues j ≤ residue_most s j
residue-within s u h j = go (dec_lt j (places s))
  where
    go : Dec (j < places s) → coefficient u.residues j ≤ residue_most s j
    go (yes l) = rw (lt-ltb j (places s) l) (omega (arith, h.residues_below j))
    go (no l) = rw (le-ltb j (places s) (omega arith)) (omega (arith, h.residues_zero j (omega arith)))

module _ (s : Setting) (u : Sum) (ok : setting_checks s ≡ fine) where
  sum-coherent : sum_cause s u ≡ false → Coherent s u
  unfolding sum_cause
  sum-coherent e =
      let b : Bounds s = bounds s ok in
      let few = neither (ltb most_pairs u.total) (residues_cause s u.residues || (fields_cause s (open_pairs s u) u.word || word_cause s u.word)) e in
      let rs = neither (residues_cause s u.residues) (fields_cause s (open_pairs s u) u.word || word_cause s u.word) few.1 in
      let fs = neither (fields_cause s (open_pairs s u) u.word) (word_cause s u.word) rs.1 in
      let each : (j : ℕ) → j < length u.residues → coefficient u.residues j ≤ residue_most s j = (exceeds-none (length u.residues) (coefficient u.residues) (residue_most s)).0 rs.0 in
      record {
        accepted = ok;
        few = ltb-false most_pairs u.total few.0;
        residues_below = λ j. below b each j (dec_lt j (length u.residues));
        residues_zero = λ j l. none b each j l (dec_lt j (length u.residues));
        fields_most = (exceeds-none (places s) (field (base s) u.word) (field_most s (open_pairs s u))).0 fs.0;
        word_below = leb-false (2 ^ span_of s) u.word fs.1;
      }
    where
      below : Bounds s → ((j : ℕ) → j < length u.residues → coefficient u.residues j ≤ residue_most s j) → (j : ℕ) → Dec (j < length u.residues) → coefficient u.residues j < s.p
      below b each j (yes l) = go (ltb j (places s)) (each j l)
        where
          go : (t : Bool) → coefficient u.residues j ≤ pick t (s.p - 1) 0 → coefficient u.residues j < s.p
          go true h = omega (arith, b.range.choice.p_low)
          go false h = omega (arith, b.range.choice.p_low)
      below b each j (no l) = rw (coefficient-past u.residues j (omega arith)) (omega (arith, b.range.choice.p_low))

      none : Bounds s → ((j : ℕ) → j < length u.residues → coefficient u.residues j ≤ residue_most s j) → (j : ℕ) → places s ≤ j → Dec (j < length u.residues) → coefficient u.residues j ≡ 0
      none b each j h (yes l) = let most : coefficient u.residues j ≤ 0 = rw (le-ltb j (places s) h) at (each j l) in omega arith
      none b each j h (no l) = coefficient-past u.residues j (omega arith)

coherent-passes : (s : Setting) (u : Sum) → Coherent s u → sum_cause s u ≡ false
unfolding sum_cause
coherent-passes s u h =
    rw (
      le-ltb most_pairs u.total h.few,
      (exceeds-none (length u.residues) (coefficient u.residues) (residue_most s)).1 (λ j l. residue-within s u h j),
      (exceeds-none (places s) (field (base s) u.word) (field_most s (open_pairs s u))).1 h.fields_most,
      lt-leb (2 ^ span_of s) u.word h.word_below,
    )

pub coherent-is : (r : Record) → (record_cause r ≡ false) ↔ Coherent r.setting r.sum
unfolding record_cause
coherent-is r = (
  λ e. let both = neither (refuses (setting_checks r.setting)) (sum_cause r.setting r.sum) e in
      sum-coherent r.setting r.sum ((refuses-none (setting_checks r.setting)).0 both.0) both.1,
  λ h. rw ((refuses-none (setting_checks r.setting)).1 h.accepted, coherent-passes r.setting r.sum h),
)

-- ---- the open word

module _ (s : Setting) (u : Sum) (h : Coherent s u) where
  abbrev open-list : List ℕ
  open-list = fields (base s) (places s) u.word

  open-whole : packed (base s) open-list ≡ u.word
  open-whole = packed-fields (base s) (pow_pos s.t) (places s) u.word (rw (span-power s) at h.word_below)

  open-most : Within (batch_most s.p s.k (open_pairs s u)) open-list
  open-most j = go (dec_lt j (places s))
    where
      go : Dec (j < places s) → coefficient open-list j ≤ batch_most s.p s.k (open_pairs s u) j
      go (yes l) = rw (upto-at (places s) (field (base s) u.word) j l) (h.fields_most j l)
      go (no l) = rw (upto-past (places s) (field (base s) u.word) j (omega arith)) zero-le

  module _ (cs : List Pair) (ps : Pairs s.p s.k cs) (few : open_pairs s u + length cs ≤ s.n) where
    abbrev more : List ℕ
    more = sum open-list (sum_of_products cs)

    more-word : u.word + sum_of_words (base s) cs ≡ packed (base s) more
    more-word = sym (packed-sum (base s) open-list (sum_of_products cs) ∙ rw (open-whole, packed-sum_of_products (base s) cs))

    more-most : Within (batch_most s.p s.k (open_pairs s u + length cs)) more
    more-most j =
        rw (coefficient-sum open-list (sum_of_products cs) j)
        (omega (arith, open-most j, batch-most s.p s.k cs ps j, add-mul (open_pairs s u) (length cs) (product_most s.p s.k j)))

    full-most : Within (batch_most s.p s.k s.n) more
    full-most j = le_trans (more-most j) (batch-more s.p s.k (open_pairs s u + length cs) s.n few j)

    more-below : Below (base s) more
    more-below j = lt_of_le_of_lt (full-most j) ((bounds s h.accepted).field_fits j)

    pub open-room : u.word + sum_of_words (base s) cs < 2 ^ 64
    open-room = rw more-word ((bounds s h.accepted).batch_fits more full-most)

    pub field-more : (j : ℕ) → j < places s → field (base s) (u.word + sum_of_words (base s) cs) j ≡ field (base s) u.word j + coefficient (sum_of_products cs) j
    field-more j l =
        rw more-word (field-packed (base s) more more-below j)
        ∙ coefficient-sum open-list (sum_of_products cs) j
        ∙ rw (upto-at (places s) (field (base s) u.word) j l)

    field_bound : (j : ℕ) → field (base s) (u.word + sum_of_words (base s) cs) j ≤ batch_most s.p s.k (open_pairs s u + length cs) j
    field_bound j = rw (more-word, field-packed (base s) more more-below j) (more-most j)

    more-span : u.word + sum_of_words (base s) cs < 2 ^ span_of s
    more-span = rw more-word (within-span s more (bounds s h.accepted) full-most)

-- ---- pairs

pub after-join : (s : Setting) (u : Sum) (cs ds : List Pair) → after_pairs s u (cs ++ ds) ≡ after_pairs s (after_pairs s u cs) ds
unfolding after_pairs
after-join s u [] ds = refl
after-join s u (c ∷ cs) ds = after-join s (after_pair s u c) cs ds

abbrev pub with_pairs : Setting → Sum → ℕ → ℕ → Sum
with_pairs s u m w = record { total = u.total + m; word = u.word + w; residues = u.residues }

pub after_one : (s : Setting) (u : Sum) (c : Pair) → 0 < s.n → (open_pairs s u + 1 ≡ s.n → after_pair s u c ≡ split s (with_pair s u c)) × (open_pairs s u + 1 < s.n → after_pair s u c ≡ with_pair s u c)
after_one s u c hn = (λ e. rw (remainder-full u.total s.n hn e), λ l. rw (remainder-next u.total s.n hn l, ne_eqb (open_pairs s u + 1) 0 (λ e. omega arith)))

batch-one : (s : Setting) (u : Sum) (c : Pair) → with_pairs s u 1 (sum_of_words (base s) (c ∷ [])) ≡ with_pair s u c
batch-one s u c = rw (add-zero (packed (base s) c.left * packed (base s) c.right))

with-more : (s : Setting) (u : Sum) (c : Pair) (m w : ℕ) → with_pairs s (with_pair s u c) m w ≡ with_pairs s u (suc m) (packed (base s) c.left * packed (base s) c.right + w)
with-more s u c m w =
    let e : u.total + 1 + m ≡ u.total + suc m = omega arith in
    let f : u.word + packed (base s) c.left * packed (base s) c.right + w ≡ u.word + (packed (base s) c.left * packed (base s) c.right + w) = omega arith in
    rw (e, f)

abbrev After : Setting → Sum → List Pair → Type 0
After s u cs =
    after_pairs s u cs
    ≡ pick (eqb (open_pairs s u + length cs) s.n) (split s (with_pairs s u (length cs) (sum_of_words (base s) cs))) (with_pairs s u (length cs) (sum_of_words (base s) cs))

pub batch-after : (s : Setting) → 0 < s.n → (u : Sum) (cs : List Pair) → open_pairs s u + length cs ≤ s.n → After s u cs
unfolding after_pairs
batch-after s hn u [] few = rw (add-zero (open_pairs s u), add-zero u.total, add-zero u.word, ne_eqb (open_pairs s u) s.n (λ e. omega (arith, mod-lt u.total hn)))
batch-after s hn u (c ∷ cs) few = go (dec_lt (open_pairs s u + 1) s.n) cs few (batch-after s hn (with_pair s u c) cs)
  where
    go : Dec (open_pairs s u + 1 < s.n) → (cs : List Pair) → open_pairs s u + suc (length cs) ≤ s.n → (open_pairs s (with_pair s u c) + length cs ≤ s.n → After s (with_pair s u c) cs) → After s u (c ∷ cs)
    go (yes l) cs few rest =
        let held : open_pairs s (with_pair s u c) ≡ open_pairs s u + 1 = remainder-next u.total s.n hn l in
        let count : open_pairs s u + 1 + length cs ≡ open_pairs s u + suc (length cs) = omega arith in
        rw ((after_one s u c hn).1 l) (rest (rw held (omega arith)) ∙ rw (held, count) (ap (λ (v : Sum). pick (eqb (open_pairs s u + suc (length cs)) s.n) (split s v) v) (with-more s u c (length cs) (sum_of_words (base s) cs))))
    go (no l) [] few rest =
        let last : open_pairs s u + 1 ≡ s.n = omega (arith, mod-lt u.total hn) in
        rw ((after_one s u c hn).0 last, last, eq-eqb s.n s.n refl) (ap (split s) (sym (batch-one s u c)))
    go (no l) (d ∷ cs) few rest = absurd (omega arith)

pub after-total : (s : Setting) (u : Sum) (cs : List Pair) → (after_pairs s u cs).total ≡ u.total + length cs
unfolding after_pairs
after-total s u [] = sym (add-zero u.total)
after-total s u (c ∷ cs) = after-total s (after_pair s u c) cs ∙ rw one (omega arith)
  where
    go : (b : Bool) → (pick b (split s (with_pair s u c)) (with_pair s u c)).total ≡ u.total + 1
    go true = refl
    go false = refl

    one : (after_pair s u c).total ≡ u.total + 1
    one = go (eqb (open_pairs s (with_pair s u c)) 0)

-- ---- a coherent record stays coherent

split-coherent : (s : Setting) (u : Sum) → setting_checks s ≡ fine → u.total ≤ most_pairs → Below s.p u.residues → ((j : ℕ) → places s ≤ j → coefficient u.residues j ≡ 0) → Coherent s (split s u)
split-coherent s u ok few below none =
    let b : Bounds s = bounds s ok in
    record {
      accepted = ok;
      few = few;
      residues_below = λ j. go j (dec_lt j (places s));
      residues_zero = λ j l. filled-after (places s) (closing_at s u) u.residues j l ∙ none j l;
      fields_most = λ j l. rw (zero-div (base s ^ j), zero-mod (base s)) zero-le;
      word_below = pow_pos (span_of s);
    }
  where
    go : (j : ℕ) → Dec (j < places s) → coefficient (filled (places s) (closing_at s u) u.residues) j < s.p
    go j (yes l) = rw (filled_at (places s) (closing_at s u) u.residues j l) (mod-lt _ (omega (arith, below 0)))
    go j (no l) = rw (filled-after (places s) (closing_at s u) u.residues j (omega arith)) (below j)

coherent-one : (s : Setting) (u : Sum) (c : Pair) → Coherent s u → Pairs s.p s.k (c ∷ []) → u.total + 1 ≤ most_pairs → Coherent s (after_pair s u c)
coherent-one s u c h ps few = go (dec_lt (open_pairs s u + 1) s.n)
  where
    some : 0 < s.n
    some = (bounds s h.accepted).range.choice.n_low

    within : open_pairs s u + 1 ≤ s.n
    within = omega (arith, mod-lt u.total some)

    go : Dec (open_pairs s u + 1 < s.n) → Coherent s (after_pair s u c)
    go (no l) = rw ((after_one s u c some).0 (omega (arith, within))) (split-coherent s (with_pair s u c) h.accepted few h.residues_below h.residues_zero)
    go (yes l) =
        let product : ℕ = packed (base s) c.left * packed (base s) c.right in
        let word : sum_of_words (base s) (c ∷ []) ≡ product = add-zero product in
        let held : (u.total + 1) % s.n ≡ open_pairs s u + 1 = remainder-next u.total s.n some l in
        rw ((after_one s u c some).1 l)
        (record {
          accepted = h.accepted;
          few = few;
          residues_below = h.residues_below;
          residues_zero = h.residues_zero;
          fields_most = λ j lj. rw held (rw word at (field_bound s u h (c ∷ []) ps within j));
          word_below = rw word at (more-span s u h (c ∷ []) ps within);
        })

pub coherent-after : (s : Setting) (u : Sum) (cs : List Pair) → Coherent s u → Pairs s.p s.k cs → u.total + length cs ≤ most_pairs → Coherent s (after_pairs s u cs)
unfolding after_pairs
coherent-after s u [] h ps few = h
coherent-after s u (c ∷ cs) h ps few =
    let one : (after_pair s u c).total ≡ u.total + 1 = after-total s u (c ∷ []) in
    coherent-after s (after_pair s u c) cs (coherent-one s u c h (ps.0, ps.1, tt) (omega arith)) ps.2 (rw one (omega arith))
