-- What is read from short texts and put into short buffers, computed from the definitions. Assumes nothing.
--     kinds-agree       the kinds of bytes, those on both sides of every limit among them
--     seeks-agree       places in the text `ab :0a`, found or not, from its start, from within, from its end and from past it
--     codes-agree       the same by the numbers of kinds, and by numbers that are no kind's
--     reads-agree       texts that are read whole, and such that stop at a stray byte, at a number that is too large, at one for which there is no room
--     puts-agree        numbers and a refusal in text, and where a text stands in a buffer
use Rattle.std.specs.Prelude.{ℕ, Bool, true, false, ◌≡◌, refl, List, [], ◌∷◌, Result, Ok, Err}
use Rattle.polynomials.specs.Indices.{first}
use Rattle.layout.specs.Decimals.{digits, decimal}
use Rattle.texts.specs.Kinds.{kind_of, wants_of, place_where, place_of}
use Rattle.texts.specs.Reading.{bad_at, outcome_at, outcome}
use Rattle.texts.specs.Putting.{spaced, refused_text, pasted, next_place}
use Rattle.texts.specs.declared.kinds.Kind.{Kind}
use Rattle.texts.specs.declared.kinds.Kind.TheVariants.{Blank, Digit, Letter, Colon, Comment}
use Rattle.texts.specs.declared.reading.Stop.{Stop}
use Rattle.texts.specs.declared.reading.Stop.TheVariants.{Stray, Large, Many}

abbrev each : List ℕ → List ℕ
each [] = []
each (c ∷ cs) = kind_of c ∷ each cs

pub kinds-agree : each (9 ∷ 10 ∷ 11 ∷ 12 ∷ 13 ∷ 14 ∷ 31 ∷ 32 ∷ 33 ∷ 34 ∷ 35 ∷ 36 ∷ 47 ∷ 48 ∷ 57 ∷ 58 ∷ 59 ∷ 65 ∷ 96 ∷ 97 ∷ 122 ∷ 123 ∷ 0 ∷ 255 ∷ []) ≡ 5 ∷ 0 ∷ 5 ∷ 5 ∷ 0 ∷ 5 ∷ 5 ∷ 0 ∷ 5 ∷ 5 ∷ 4 ∷ 5 ∷ 5 ∷ 1 ∷ 1 ∷ 3 ∷ 5 ∷ 5 ∷ 5 ∷ 2 ∷ 2 ∷ 5 ∷ 5 ∷ 5 ∷ []
unfolding kind_of
kinds-agree = refl

abbrev sample : List ℕ
sample = 97 ∷ 98 ∷ 32 ∷ 58 ∷ 48 ∷ 97 ∷ []

abbrev place : Kind → Bool → ℕ → ℕ
place k is i = place_where (wants_of k is) sample i

pub seeks-agree :
    place Letter true 0 ∷ place Letter true 1 ∷ place Letter true 2 ∷ place Letter true 6 ∷ place Letter true 9 ∷ place Colon true 0 ∷ place Digit true 0 ∷ place Comment true 0 ∷ place Letter false 0 ∷ place Letter false 5 ∷ place Blank false 2 ∷ place Blank false 6 ∷ []
    ≡ 0 ∷ 1 ∷ 5 ∷ 6 ∷ 9 ∷ 3 ∷ 4 ∷ 6 ∷ 2 ∷ 6 ∷ 3 ∷ 6 ∷ []
unfolding kind_of place_where first
seeks-agree = refl

pub codes-agree : place_of sample 2 true 2 ∷ place_of sample 2 false 0 ∷ place_of sample 5 true 0 ∷ place_of sample 6 true 0 ∷ place_of sample 6 false 1 ∷ place_of sample 255 false 9 ∷ [] ≡ 5 ∷ 2 ∷ 6 ∷ 6 ∷ 1 ∷ 9 ∷ []
unfolding kind_of place_of first
codes-agree = refl

-- the outcomes of texts, one after the other
pub record TextRow : Type 0 where
  pub most : ℕ
  pub room : ℕ
  pub text : List ℕ

abbrev row : ℕ → ℕ → List ℕ → TextRow
row m n cs = record { most = m; room = n; text = cs }

abbrev reads : List TextRow → List (Result ℕ Stop)
reads [] = []
reads (r ∷ rs) = outcome r.most r.room r.text ∷ reads rs

pub reads-agree :
    reads
    (row 9 2 ([])
    ∷ row 9 2 (32 ∷ [])
    ∷ row 9 2 (55 ∷ [])
    ∷ row 9 2 (49 ∷ 32 ∷ 50 ∷ [])
    ∷ row 9 2 (10 ∷ 49 ∷ 13 ∷ 32 ∷ 50 ∷ 32 ∷ [])
    ∷ row 9 1 (49 ∷ 32 ∷ 50 ∷ [])
    ∷ row 9 0 (49 ∷ [])
    ∷ row 12 2 (49 ∷ 50 ∷ [])
    ∷ row 11 2 (49 ∷ 50 ∷ [])
    ∷ row 11 2 (32 ∷ 49 ∷ 32 ∷ 48 ∷ 49 ∷ 50 ∷ [])
    ∷ row 12 2 (49 ∷ 32 ∷ 48 ∷ 49 ∷ 50 ∷ [])
    ∷ row 9 2 (49 ∷ 32 ∷ 120 ∷ [])
    ∷ row 9 2 (120 ∷ [])
    ∷ row 9 2 (49 ∷ 58 ∷ 50 ∷ [])
    ∷ row 9 2 (49 ∷ 9 ∷ 50 ∷ [])
    ∷ row 9 2 (49 ∷ 32 ∷ 57 ∷ 57 ∷ 32 ∷ 120 ∷ [])
    ∷ row 9 2 (49 ∷ 32 ∷ 120 ∷ 32 ∷ 57 ∷ 57 ∷ [])
    ∷ row 9 1 (49 ∷ 32 ∷ 57 ∷ 57 ∷ [])
    ∷ row 99 1 (49 ∷ 32 ∷ 57 ∷ 57 ∷ [])
    ∷ row 9 1 (49 ∷ 32 ∷ 50 ∷ 32 ∷ 120 ∷ [])
    ∷ [])
    ≡ Ok 0
    ∷ Ok 0
    ∷ Ok 1
    ∷ Ok 2
    ∷ Ok 2
    ∷ Err (Many 2)
    ∷ Err (Many 0)
    ∷ Ok 1
    ∷ Err (Large 0)
    ∷ Err (Large 3)
    ∷ Ok 2
    ∷ Err (Stray 2)
    ∷ Err (Stray 0)
    ∷ Err (Stray 1)
    ∷ Err (Stray 1)
    ∷ Err (Large 2)
    ∷ Err (Stray 2)
    ∷ Err (Large 2)
    ∷ Err (Many 2)
    ∷ Err (Many 2)
    ∷ []
unfolding outcome outcome_at bad_at first
reads-agree = refl

pub puts-agree :
    (spaced (0 ∷ 7 ∷ 10 ∷ 65535 ∷ []) ≡ 32 ∷ 48 ∷ 32 ∷ 55 ∷ 32 ∷ 49 ∷ 48 ∷ 32 ∷ 54 ∷ 53 ∷ 53 ∷ 51 ∷ 53 ∷ [])
    × (refused_text 8 14 ≡ 114 ∷ 101 ∷ 102 ∷ 117 ∷ 115 ∷ 101 ∷ 100 ∷ 32 ∷ 56 ∷ 32 ∷ 49 ∷ 52 ∷ [])
    × (pasted 1 (1 ∷ 2 ∷ []) (7 ∷ 7 ∷ 7 ∷ 7 ∷ []) ≡ 7 ∷ 1 ∷ 2 ∷ 7 ∷ [])
    × (pasted 3 (1 ∷ 2 ∷ []) (7 ∷ 7 ∷ 7 ∷ 7 ∷ []) ≡ 7 ∷ 7 ∷ 7 ∷ 1 ∷ [])
    × (pasted 4 (1 ∷ 2 ∷ []) (7 ∷ 7 ∷ 7 ∷ 7 ∷ []) ≡ 7 ∷ 7 ∷ 7 ∷ 7 ∷ [])
    × (next_place 2 (1 ∷ 2 ∷ []) (7 ∷ 7 ∷ 7 ∷ 7 ∷ []) ≡ 4)
    × (next_place 3 (1 ∷ 2 ∷ []) (7 ∷ 7 ∷ 7 ∷ 7 ∷ []) ≡ 5)
    × (next_place 9 [] (7 ∷ 7 ∷ 7 ∷ 7 ∷ []) ≡ 5)
unfolding refused_text pasted decimal digits first
puts-agree = (refl, refl, refl, refl, refl, refl, refl, refl)
