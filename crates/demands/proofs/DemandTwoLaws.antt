-- Demand 2 holds. It stands here, apart from its definitions, so that an edit of one of these is refused by this proof. Assumes nothing.
--     demand-2    what Demand2 says of batches, for every accepted setting
use Rattle.std.proofs.lemmas.Bool.{lt-leb}
use Rattle.std.specs.Prelude.{◌≡◌, refl, true, length, Result, Ok}
use Rattle.std.proofs.Common.{sym, ◌∙◌, lt_of_le_of_lt, arith, pow_pos, ℕ, zero, suc, ◌%◌, ◌^◌, ◌≤◌, ◌<◌, List, [], ◌∷◌, ◌++◌, le-ltb}
use Rattle.std.proofs.Math.ListN.{drop}
use Rattle.polynomials.specs.IndexLaws.{upto-same}
use Rattle.polynomials.specs.Lists.{coefficient, Operand, Pair, Pairs, sum_of_products}
use Rattle.polynomials.specs.Places.{packed, field, fields, sum_of_words}
use Rattle.polynomials.specs.PlaceLaws.{packed-sum_of_products}
use Rattle.polynomials.specs.ReductionLaws.{reduced-most}
use Rattle.settings.specs.Answers.{fine}
use Rattle.settings.specs.SharedAnswers.{writes-once, writes-filled}
use Rattle.settings.specs.Settings.{setting_checks, base, places, span_of}
use Rattle.settings.specs.Bounds.{bounds, batch-within}
use Rattle.words.specs.Places.{word_checks, places_checks, reduced_word, reduce_answer, Reduces, reduce-once}
use Rattle.words.specs.WordLaws.{within-span}
use Rattle.words.specs.ReduceLaws.{reduce-checked, reduce-field}
use Rattle.packed.specs.RoundTrips.{PackedTo, packed-to}
use Rattle.packed.specs.Calls.{schoolbook}
use Rattle.packed.specs.SumOfPairs.{batch-fields}
use Rattle.tables.specs.Tables.{fits, table_checks, ReducesByTable}
use Rattle.tables.specs.ByTableLaws.{by-table-reduces, by-table-answers}
use Rattle.settings.specs.declared.setting.Setting.{Setting}
use Rattle.demands.specs.DemandTwo.{PackedPair, EachPacked, pairs_given, word_of, Batch, Batches, batch_at, words_of, UnpacksTo, GivesSums, Demand2}
use Rattle.settings.specs.declared.refusals.Refusal.{Refusal}

operand : (s : Setting) (xs : List ℕ) (w : ℕ) → PackedTo s xs w → Operand s.p s.k xs
operand s xs w h = record { size = omega (arith, h.size); below = h.below }

operands : (s : Setting) (cs : List PackedPair) → EachPacked s cs → Pairs s.p s.k (pairs_given cs)
operands s [] h = tt
operands s (c ∷ cs) h = (operand s c.left c.left_word (packed-to s c.left c.left_word h.0), operand s c.right c.right_word (packed-to s c.right c.right_word h.1), operands s cs h.2)

count : (cs : List PackedPair) → length (pairs_given cs) ≡ length cs
count [] = refl
count (c ∷ cs) = omega (arith, count cs)

words_are : (s : Setting) (cs : List PackedPair) → EachPacked s cs → word_of cs ≡ sum_of_words (base s) (pairs_given cs)
words_are s [] h = refl
words_are s (c ∷ cs) h = rw ((packed-to s c.left c.left_word h.0).word, (packed-to s c.right c.right_word h.1).word, words_are s cs h.2)

-- one batch
module _ (s : Setting) (ok : setting_checks s ≡ fine) (cs : List PackedPair) (given : Batch s cs) where
  abbrev pairs : List Pair
  pairs = pairs_given cs

  abbrev w : ℕ
  w = word_of cs

  at_most : length pairs ≤ s.n
  at_most = rw (count cs) given.1

  word-is : w ≡ packed (base s) (sum_of_products pairs)
  word-is = words_are s cs given.0 ∙ sym (packed-sum_of_products (base s) pairs)

  below : w < 2 ^ span_of s
  below = rw word-is (within-span s (sum_of_products pairs) (bounds s ok) (batch-within s pairs (operands s cs given.0) at_most))

  batch-passes : word_checks s w ≡ fine
  unfolding word_checks
  batch-passes = rw (ok, lt-leb (2 ^ span_of s) w below)

  -- its fields are the coefficients of the sum
  field_is : (i : ℕ) → field (base s) w i ≡ coefficient (sum_of_products pairs) i
  field_is i = rw word-is (batch-fields s ok pairs (operands s cs given.0) at_most i)

  unpacks-to : (v : ℕ) → Reduces s w (Ok v) → UnpacksTo s cs v
  unfolding places_checks word_checks
  unpacks-to v reduces old after a room unpacks =
      let answer : v ≡ reduced_word s w = (reduce-checked s w v reduces).1 in
      let small : v < 2 ^ span_of s = rw answer (lt_of_le_of_lt (reduced-most s.p (base s) (places s) w (pow_pos s.t)) below) in
      let checks : places_checks s v (length old) ≡ fine = rw (ok, lt-leb (2 ^ span_of s) v small, le-ltb (length old) (places s) room) in
      let new : List ℕ = fields (base s) (places s) v in
      let sums : new ≡ schoolbook s pairs = upto-same (places s) (field (base s) v) (λ j. coefficient (sum_of_products pairs) j % s.p) (λ j h. reduce-field s w v j reduces h ∙ rw (field_is j)) in
      let kept = writes-once (places_checks s v (length old)) new old a (Ok (places s)) after (new ++ drop (places s) old) unpacks (writes-filled (places_checks s v (length old)) (places s) (field (base s) v) old (new ++ drop (places s) old) checks refl) in
      (kept.0, kept.1 ∙ rw sums)

  answers : Reduces s w (Ok (reduced_word s w))
  unfolding reduce_answer
  answers = rw batch-passes

  batch-reduced : (r : Result ℕ Refusal) → Reduces s w r → GivesSums s cs r
  batch-reduced r h =
      let is : r ≡ Ok (reduced_word s w) = reduce-once s w r (Ok (reduced_word s w)) h answers in
      record { word = reduced_word s w; is = is; unpacked = unpacks-to (reduced_word s w) answers }

-- one of some batches
one_of : (s : Setting) (bs : List (List PackedPair)) → Batches s bs → (i : ℕ) → i < length bs → Batch s (batch_at bs i)
one_of s [] h i l = absurd (omega arith)
one_of s (cs ∷ bs) h zero l = h.0
one_of s (cs ∷ bs) h (suc i) l = one_of s bs h.1 i (omega arith)

words-length : (bs : List (List PackedPair)) → length (words_of bs) ≡ length bs
words-length [] = refl
words-length (cs ∷ bs) = omega (arith, words-length bs)

word_at : (bs : List (List PackedPair)) (i : ℕ) → coefficient (words_of bs) i ≡ word_of (batch_at bs i)
word_at [] i = refl
word_at (cs ∷ bs) zero = refl
word_at (cs ∷ bs) (suc i) = word_at bs i

module _ (s : Setting) (ok : setting_checks s ≡ fine) (bs : List (List PackedPair)) (given : Batches s bs) where
  reduces-at : (i : ℕ) → i < length bs → Reduces s (word_of (batch_at bs i)) (Ok (reduced_word s (word_of (batch_at bs i))))
  reduces-at i l = answers s ok (batch_at bs i) (one_of s bs given i l)

  pub demand-2 : Demand2 s bs
  demand-2 = record {
    words_pass = λ i l. batch-passes s ok (batch_at bs i) (one_of s bs given i l);
    reducing = λ i l. batch-reduced s ok (batch_at bs i) (one_of s bs given i l);
    by_table = tabled;
  }
    where
      tabled : (buf old after : List ℕ) (a : Result ℕ Refusal) → table_checks s ≡ fine → fits s buf ≡ true → length bs ≤ length old → ReducesByTable s buf (words_of bs) old a after
          → (a ≡ Ok (length bs)) × ((i : ℕ) → i < length bs → GivesSums s (batch_at bs i) (Ok (coefficient after i)))
      tabled buf old after a checked fit room promise =
          let size = words-length bs in
          let each : (i : ℕ) → i < length (words_of bs) → Reduces s (coefficient (words_of bs) i) (Ok (reduced_word s (word_of (batch_at bs i)))) = λ i l. rw (word_at bs i) (reduces-at i (rw size at l)) in
          let done : a ≡ Ok (length (words_of bs)) = by-table-answers s buf (words_of bs) old after a (λ i. reduced_word s (word_of (batch_at bs i))) checked fit (rw size room) each promise in
          let wrote = by-table-reduces s buf (words_of bs) old after (length (words_of bs)) (rw done at promise) in (
            done ∙ rw size,
            λ i l.
                let here : Reduces s (word_of (batch_at bs i)) (Ok (coefficient after i)) = rw (word_at bs i) at (wrote.1 i (rw size l)) in
                batch-reduced s ok (batch_at bs i) (one_of s bs given i l) (Ok (coefficient after i)) here,
          )
