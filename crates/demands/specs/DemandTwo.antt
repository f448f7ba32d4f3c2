-- Demand 2: what pack answers for up to n pairs, multiplied and added as whole numbers, then reduced, with the table or without, and unpacked, is the
-- schoolbook sum modulo p. It names promises, and no function. Assumes nothing.
--     PackedPair              two polynomials, and a word for each
--     EachPacked s cs         each word is what pack answers for its polynomial
--     pairs_given cs           the pairs of polynomials
--     word_of cs               their words, multiplied pair by pair and added up as whole numbers
--     Batch s cs              a batch: up to n such pairs
--     Batches s bs            some batches; batch_at bs i, one of them; words_of bs, the word of each
--     UnpacksTo s cs w        whatever unpacks the word w gives the schoolbook sum of the pairs modulo p, and leaves what stood after
--     GivesSums s cs r        r is such a word
--     Demand2 s bs            what demand 2 says of such batches
--     same-list               with the table or without, unpacking leaves the same list
use Rattle.std.specs.Prelude.{◌≡◌, true, length, get_or, Result, Ok, ℕ, ◌*◌, ◌+◌, ◌≤◌, ◌<◌, List, [], ◌∷◌, ◌++◌}
use Rattle.std.proofs.Math.ListN.{drop}
use Rattle.polynomials.specs.Lists.{coefficient, Pair}
use Rattle.settings.specs.Answers.{fine}
use Rattle.settings.specs.Settings.{places}
use Rattle.words.specs.Places.{word_checks, Reduces, reduce-once, Unpacks, unpack-once}
use Rattle.packed.specs.Packing.{Packs}
use Rattle.packed.specs.Calls.{schoolbook}
use Rattle.tables.specs.Tables.{fits, table_checks, ReducesByTable}
use Rattle.tables.specs.ByTableLaws.{by-table-reduces}
use Rattle.settings.specs.declared.setting.Setting.{Setting}
use Rattle.settings.specs.declared.refusals.Refusal.{Refusal}

-- ---- what is given

pub record PackedPair : Type 0 where
  pub left : List ℕ
  pub right : List ℕ
  pub left_word : ℕ
  pub right_word : ℕ

abbrev pub EachPacked : Setting → List PackedPair → Type 0
EachPacked s [] = Unit {0}
EachPacked s (c ∷ cs) = Packs s c.left (Ok c.left_word) × Packs s c.right (Ok c.right_word) × EachPacked s cs

abbrev pub pairs_given : List PackedPair → List Pair
pairs_given [] = []
pairs_given (c ∷ cs) = record { left = c.left; right = c.right } ∷ pairs_given cs

abbrev pub word_of : List PackedPair → ℕ
word_of [] = 0
word_of (c ∷ cs) = c.left_word * c.right_word + word_of cs

abbrev pub Batch : Setting → List PackedPair → Type 0
Batch s cs = EachPacked s cs × (length cs ≤ s.n)

abbrev pub Batches : Setting → List (List PackedPair) → Type 0
Batches s [] = Unit {0}
Batches s (cs ∷ bs) = Batch s cs × Batches s bs

abbrev pub batch_at : List (List PackedPair) → ℕ → List PackedPair
batch_at bs i = get_or bs i []

abbrev pub words_of : List (List PackedPair) → List ℕ
words_of [] = []
words_of (cs ∷ bs) = word_of cs ∷ words_of bs

-- ---- what is demanded

abbrev pub UnpacksTo : Setting → List PackedPair → ℕ → Type 0
UnpacksTo s cs w =
    (old after : List ℕ) (a : Result ℕ Refusal) → places s ≤ length old → Unpacks s w old a after
    → (a ≡ Ok (places s)) × (after ≡ schoolbook s (pairs_given cs) ++ drop (places s) old)

pub record GivesSums (s : Setting) (cs : List PackedPair) (r : Result ℕ Refusal) : Type 0 where
  pub word : ℕ
  pub is : r ≡ Ok word
  pub unpacked : UnpacksTo s cs word

pub record Demand2 (s : Setting) (bs : List (List PackedPair)) : Type 0 where
  -- 11 refuses none of the words
  pub words_pass : (i : ℕ) → i < length bs → word_checks s (word_of (batch_at bs i)) ≡ fine
  -- reduced one by one
  pub reducing : (i : ℕ) → i < length bs → (r : Result ℕ Refusal) → Reduces s (word_of (batch_at bs i)) r → GivesSums s (batch_at bs i) r
  -- reduced by a table that fits, into a list that has room for them
  pub by_table : (buf old after : List ℕ) (a : Result ℕ Refusal) → table_checks s ≡ fine → fits s buf ≡ true → length bs ≤ length old → ReducesByTable s buf (words_of bs) old a after
      → (a ≡ Ok (length bs)) × ((i : ℕ) → i < length bs → GivesSums s (batch_at bs i) (Ok (coefficient after i)))

-- ---- with the table or without

-- of any word: what was reduced by a table, and what was reduced without it
pub same-list : (s : Setting) (buf ws old after : List ℕ) (m i v : ℕ) → ReducesByTable s buf ws old (Ok m) after → i < length ws → Reduces s (coefficient ws i) (Ok v)
    → (out x y : List ℕ) (a b : Result ℕ Refusal) → Unpacks s (coefficient after i) out a x → Unpacks s v out b y → (a ≡ b) × (x ≡ y)
same-list s buf ws old after m i v tabled l reduces out x y a b ha hb =
    let same : Ok (coefficient after i) ≡ Ok v = reduce-once s (coefficient ws i) (Ok (coefficient after i)) (Ok v) ((by-table-reduces s buf ws old after m tabled).1 i l) reduces in
    let number : coefficient after i ≡ v = cc in
    unpack-once s v out a b x y (rw number at ha) hb
