-- The record of some pairs, as demand 3 tells it (sum_of of Calls): what feeding more pairs makes of it, and what closing it gives. Assumes nothing.
--     batch-fields            the fields of a packed sum of at most n products are its coefficients
--     parts-operands, rest-few
--                             the pairs of the full batches and those of the open one are operands; these are fewer than n
--     closing-sum             its closing coefficients are the schoolbook sum modulo p
--     sum_more                feeding pairs to the record of some pairs gives the record of them all
--     sum-none, sum-fresh     the record of no pairs is a fresh one; so it is with a fresh one too
use Rattle.std.specs.Prelude.{ℕ, ◌+◌, ◌*◌, ◌/◌, ◌%◌, ◌≤◌, ◌<◌, ◌≡◌, List, [], ◌∷◌, ◌++◌, length}
use Rattle.std.proofs.Common.{sym, ap, ◌∙◌, lt_of_le_of_lt, add-zero, mod-lt, zero-mul, append-nil, append_assoc, arith, length-append}
use Rattle.std.proofs.Math.Nat.{zero-div, zero-mod, mod-add-mod}
use Rattle.std.proofs.Math.Decide.{dec_lt}
use Rattle.polynomials.specs.Indices.{upto, filled}
use Rattle.polynomials.specs.IndexLaws.{length-upto, upto-at, upto-same}
use Rattle.polynomials.specs.Lists.{coefficient, Pair, Pairs, sum_of_products}
use Rattle.polynomials.specs.ListLaws.{lists_agree, filled_at, filled-after, length-filled}
use Rattle.polynomials.specs.BoundLaws.{batch-most, batch-past}
use Rattle.polynomials.specs.Places.{packed, field}
use Rattle.polynomials.specs.PlaceLaws.{packed-sum_of_products, field-packed}
use Rattle.polynomials.specs.Pairs.{full_batches, open_batch}
use Rattle.polynomials.specs.PairLaws.{pairs-join, pairs-parts, coefficient-sums, words-join, batches, open-few, batch-open, batch-filled}
use Rattle.settings.specs.Limits.{residue_places}
use Rattle.settings.specs.Answers.{fine}
use Rattle.settings.specs.Settings.{setting_checks, base, places}
use Rattle.settings.specs.Bounds.{Bounds, bounds, batch-within}
use Rattle.packed.specs.Running.{closing_at, split, with_pair, after_pair, after_pairs, fresh_sum}
use Rattle.packed.specs.Calls.{schoolbook, sum_of}
use Rattle.packed.specs.RunningLaws.{after_one}
use Rattle.settings.specs.declared.setting.Setting.{Setting}
use Rattle.packed.specs.declared.running.Sum.{Sum}

module _ (s : Setting) (ok : setting_checks s ≡ fine) where
  b : Bounds s
  b = bounds s ok

  some-n : 0 < s.n
  some-n = b.range.choice.n_low

  pub batch-fields : (cs : List Pair) → Pairs s.p s.k cs → length cs ≤ s.n → (j : ℕ) → field (base s) (packed (base s) (sum_of_products cs)) j ≡ coefficient (sum_of_products cs) j
  batch-fields cs ps few =
      field-packed (base s) (sum_of_products cs) (λ j. lt_of_le_of_lt (batch-within s cs ps few j) (b.field_fits j))

  past : (cs : List Pair) → Pairs s.p s.k cs → (j : ℕ) → places s ≤ j → coefficient (sum_of_products cs) j ≡ 0
  past cs ps j h = omega (arith, batch-most s.p s.k cs ps j, batch-past s.p s.k (length cs) j h)

  module _ (cs : List Pair) (ps : Pairs s.p s.k cs) where
    abbrev full : List Pair
    full = full_batches s.n cs

    abbrev rest : List Pair
    rest = open_batch s.n cs

    pub parts-operands : Pairs s.p s.k full × Pairs s.p s.k rest
    parts-operands = pairs-parts s.p s.k full rest (rw (batches s.n some-n cs) ps)

    pub rest-few : length rest < s.n
    rest-few = rw (open-few s.n some-n cs) (mod-lt (length cs) some-n)

    whole : (j : ℕ) → coefficient (sum_of_products cs) j ≡ coefficient (sum_of_products full) j + coefficient (sum_of_products rest) j
    whole j = sym (sym (coefficient-sums full rest j) ∙ rw (batches s.n some-n cs))

    pub closing-sum : upto (places s) (closing_at s (sum_of s cs)) ≡ schoolbook s cs
    closing-sum = upto-same (places s) (closing_at s (sum_of s cs)) (λ j. coefficient (sum_of_products cs) j % s.p) at
      where
        at : (j : ℕ) → j < places s → closing_at s (sum_of s cs) j ≡ coefficient (sum_of_products cs) j % s.p
        at j l =
            rw (upto-at residue_places (λ j. coefficient (sum_of_products full) j % s.p) j (omega (arith, b.range.choice.k_high)), batch-fields rest parts-operands.1 (omega (arith, rest-few)) j)
            (mod-add-mod (coefficient (sum_of_products full) j) s.p (coefficient (sum_of_products rest) j) ∙ rw (whole j))

    -- one pair more
    module _ (c : Pair) (pc : Pairs s.p s.k (c ∷ [])) where
      abbrev u : Sum
      u = sum_of s cs

      abbrev v : Sum
      v = with_pair s u c

      one_more : length (cs ++ (c ∷ [])) ≡ length cs + 1
      one_more = length-append cs (c ∷ [])

      word_more : v.word ≡ packed (base s) (sum_of_products (rest ++ (c ∷ [])))
      word_more =
          sym (packed-sum_of_products (base s) (rest ++ (c ∷ [])) ∙ words-join (base s) rest (c ∷ []) ∙ rw (← packed-sum_of_products (base s) rest, add-zero (packed (base s) c.left * packed (base s) c.right)))

      abbrev made : ℕ → ℕ → List ℕ → Sum
      made total word residues = record { total = total; word = word; residues = residues }

      stays : length cs % s.n + 1 < s.n → v ≡ sum_of s (cs ++ (c ∷ []))
      stays h =
          let more = batch-open s.n some-n cs c h in
          rw (more.0, more.1, one_more) (ap (λ (w : ℕ). made (length cs + 1) w u.residues) word_more)

      module _ (h : length cs % s.n + 1 ≡ s.n) where
        held : length (rest ++ (c ∷ [])) ≤ s.n
        held = rw (length-append rest (c ∷ []), open-few s.n some-n cs) (omega arith)

        abbrev after : ℕ → ℕ
        after j = coefficient (sum_of_products (cs ++ (c ∷ []))) j % s.p

        few : places s ≤ residue_places
        few = omega (arith, b.range.choice.k_high)

        at : (j : ℕ) → j < residue_places → Dec (j < places s) → coefficient (filled (places s) (closing_at s v) u.residues) j ≡ after j
        at j l (yes h) =
            filled_at (places s) (closing_at s v) u.residues j h
            ∙ rw (upto-at residue_places (λ j. coefficient (sum_of_products full) j % s.p) j l, word_more, batch-fields (rest ++ (c ∷ [])) (pairs-join s.p s.k rest (c ∷ []) parts-operands.1 pc) held j, coefficient-sums rest (c ∷ []) j)
            (mod-add-mod (coefficient (sum_of_products full) j) s.p (coefficient (sum_of_products rest) j + coefficient (sum_of_products (c ∷ [])) j)
            ∙ ap (λ (n : ℕ). n % s.p) (omega (arith, whole j, coefficient-sums cs (c ∷ []) j)))
        at j l (no h) =
            filled-after (places s) (closing_at s v) u.residues j (omega arith)
            ∙ upto-at residue_places (λ j. coefficient (sum_of_products full) j % s.p) j l
            ∙ rw (past full parts-operands.0 j (omega arith), past (cs ++ (c ∷ [])) (pairs-join s.p s.k cs (c ∷ []) ps pc) j (omega arith))

        size : length (filled (places s) (closing_at s v) u.residues) ≡ residue_places
        size =
            length-filled (places s) (closing_at s v) u.residues (rw (length-upto residue_places (λ j. coefficient (sum_of_products full) j % s.p)) few)
            ∙ length-upto residue_places (λ j. coefficient (sum_of_products full) j % s.p)

        residues-full : filled (places s) (closing_at s v) u.residues ≡ upto residue_places after
        residues-full =
            lists_agree (filled (places s) (closing_at s v) u.residues) (upto residue_places after) (size ∙ sym (length-upto residue_places after))
            (λ j l. at j (rw size at l) (dec_lt j (places s)) ∙ sym (upto-at residue_places after j (rw size at l)))

        closes : split s v ≡ sum_of s (cs ++ (c ∷ []))
        closes =
            let filled-up = batch-filled s.n some-n cs c h in
            rw (filled-up.0, filled-up.1, one_more) (ap (made (length cs + 1) 0) residues-full)

      sum_one : after_pair s u c ≡ sum_of s (cs ++ (c ∷ []))
      sum_one = go (dec_lt (length cs % s.n + 1) s.n)
        where
          go : Dec (length cs % s.n + 1 < s.n) → after_pair s u c ≡ sum_of s (cs ++ (c ∷ []))
          go (yes l) = (after_one s u c some-n).1 l ∙ stays l
          go (no l) = let last : length cs % s.n + 1 ≡ s.n = omega (arith, mod-lt (length cs) some-n) in (after_one s u c some-n).0 last ∙ closes last

  pub sum_more : (cs ds : List Pair) → Pairs s.p s.k cs → Pairs s.p s.k ds → after_pairs s (sum_of s cs) ds ≡ sum_of s (cs ++ ds)
  unfolding after_pairs
  sum_more cs [] pc pd = rw (append-nil cs)
  sum_more cs (d ∷ ds) pc pd =
      let one : Pairs s.p s.k (d ∷ []) = (pd.0, pd.1, tt) in
      rw (sum_one cs pc d one) (sum_more (cs ++ (d ∷ [])) ds (pairs-join s.p s.k cs (d ∷ []) pc one) pd.2 ∙ rw (append_assoc cs (d ∷ []) ds))

  -- the record of no pairs is a fresh one
  pub sum-none : sum_of s [] ≡ fresh_sum
  sum-none = let start : 0 / s.n * s.n ≡ 0 = rw (zero-div s.n, zero-mul s.n) in rw (start, zero-mod s.p)

  pub sum-fresh : (cs : List Pair) → Pairs s.p s.k cs → after_pairs s fresh_sum cs ≡ sum_of s cs
  sum-fresh cs pc = rw (← sum-none) (sum_more [] cs tt pc)
