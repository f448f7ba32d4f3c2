-- Text that is put into a lent buffer from a place on. Definitions only.
--     space, colon, line_end         the bytes that part numbers, and end a line
--     spaced ns                     the numbers in decimal, one space before each
--     refused_word                   `refused`
--     refused_text number place      `refused`, number, place, one space between them
--     pasted at text old            old with the text from place at on, as far as old goes
--     next_place at text old         the place after it, where it has room; else one more than there are places, from where nothing has room
--     Puts at text old r after      what putting a text promises: it stands in the buffer, and the answer is the place for the next
--     put-once                      it allows one answer and one buffer
use Rattle.std.specs.Prelude.{ℕ, suc, ◌+◌, ◌-◌, min, ◌≡◌, ◌&&◌, List, [], ◌∷◌, ◌++◌, leb, ltb, length}
use Rattle.std.proofs.Common.{sym, ◌∙◌}
use Rattle.polynomials.specs.Indices.{pick, upto}
use Rattle.polynomials.specs.Lists.{coefficient}
use Rattle.layout.specs.Decimals.{decimal}

abbrev pub space : ℕ
space = 32

abbrev pub colon : ℕ
colon = 58

abbrev pub line_end : ℕ
line_end = 10

abbrev pub spaced : List ℕ → List ℕ
spaced [] = []
spaced (n ∷ ns) = space ∷ (decimal n ++ spaced ns)

-- r e f u s e d
abbrev pub refused_word : List ℕ
refused_word = 114 ∷ 101 ∷ 102 ∷ 117 ∷ 115 ∷ 101 ∷ 100 ∷ []

unfoldable pub refused_text : ℕ → ℕ → List ℕ
refused_text number place = refused_word ++ spaced (number ∷ place ∷ [])

unfoldable pub pasted : ℕ → List ℕ → List ℕ → List ℕ
pasted at text old = upto (length old) (λ j. pick (leb at j && ltb j (at + length text)) (coefficient text (j - at)) (coefficient old j))

abbrev pub next_place : ℕ → List ℕ → List ℕ → ℕ
next_place at text old = min (at + length text) (suc (length old))

pub record Puts (at : ℕ) (text old : List ℕ) (r : ℕ) (after : List ℕ) : Type 0 where
  pub next : r ≡ next_place at text old
  pub bytes : after ≡ pasted at text old

pub put-once : (at : ℕ) (text old : List ℕ) (r s : ℕ) (after other : List ℕ) → Puts at text old r after → Puts at text old s other → (r ≡ s) × (after ≡ other)
put-once at text old r s after other a b = (a.next ∙ sym b.next, a.bytes ∙ sym b.bytes)
