-- The correction table's bytes, part by part. Assumes nothing.
--     square-most          p^2 is at most 127^2, where 14 is not given
--     header p t           the bytes before the entries
--     header-length        eight of them
--     header-bytes         one by one, as a word's bytes are cut off
--     table-parts          the table is the header and then the entries
--     table-length         8 + p^2 bytes
--     byte-made            so byte i is the header's, or past it entry i - 8, for which the base is known modulo p
--     difference_from buf bs i
--                          the first place from i on where a buffer differs from bytes, and their length where there is none
--     Searched buf bs i j r
--                          what a search of the places from i up to j says: it is r; or it is not before j
--     looked-up-room, looked-up-made
--                          what is looked up among the entries packs to the reduced word, for which a word has room
use Rattle.std.specs.Prelude.{ℕ, ◌+◌, ◌-◌, ◌*◌, ◌/◌, ◌%◌, ◌^◌, ◌≤◌, ◌<◌, ◌≡◌, refl, List, [], ◌∷◌, ◌++◌, ltb, length, max, Option, Some, None}
use Rattle.std.proofs.Common.{sym, ap, ◌∙◌, mul-le-mul, div-one, lt_of_le_of_lt, arith, pow_pos, lt-ltb, le-ltb}
use Rattle.std.proofs.Math.Decide.{dec_lt}
use Rattle.std.proofs.Math.ListN.{get_or-append}
use Rattle.polynomials.specs.Indices.{pick, upto, first}
use Rattle.polynomials.specs.IndexLaws.{length-upto, upto-at}
use Rattle.polynomials.specs.Lists.{coefficient}
use Rattle.polynomials.specs.ListLaws.{coefficient-after}
use Rattle.polynomials.specs.Places.{packed, reduced, entry, looked_up}
use Rattle.polynomials.specs.ReductionLaws.{reduced-most}
use Rattle.polynomials.specs.TableLaws.{entry-base, Stands, looked-up-word}
use Rattle.layout.specs.Beginnings.{differs_at}
use Rattle.layout.specs.Numbers.{big_endian}
use Rattle.settings.specs.Bounds.{Bounds}
use Rattle.settings.specs.Limits.{largest_table_modulus, word_bits}
use Rattle.settings.specs.Settings.{base, places}
use Rattle.words.specs.Places.{reduced_word}
use Rattle.tables.specs.Tables.{entries, table_version, table_body, table, header_size, table_size}
use Rattle.settings.specs.declared.setting.Setting.{Setting}

pub square-most : (p : ℕ) → p ≤ largest_table_modulus → p * p ≤ largest_table_modulus * largest_table_modulus
square-most p h = mul-le-mul {n₁ = p} {m₁ = p} h h

abbrev pub header : ℕ → ℕ → List ℕ
header p t = big_endian 4 (4 + p * p) ++ (table_version ∷ (big_endian 2 p ++ big_endian 1 t))

pub header-length : (p t : ℕ) → length (header p t) ≡ header_size
header-length p t = refl

pub header-bytes : (p t : ℕ) → header p t
    ≡ ((4 + p * p) / 2 ^ 24 % 256) ∷ ((4 + p * p) / 2 ^ 16 % 256) ∷ ((4 + p * p) / 2 ^ 8 % 256) ∷ ((4 + p * p) % 256) ∷ table_version ∷ (p / 2 ^ 8 % 256) ∷ (p % 256) ∷ (t % 256) ∷ []
header-bytes p t = rw (div-one (4 + p * p), div-one p, div-one t)

body-length : (p t : ℕ) → length (table_body p t) ≡ 4 + p * p
body-length p t = omega (arith, length-upto (p * p) (entry p (2 ^ t)))

pub table-parts : (p t : ℕ) → table p t ≡ header p t ++ entries p t
unfolding table
table-parts p t = rw (body-length p t)

pub table-length : (p t : ℕ) → length (table p t) ≡ table_size p
table-length p t = ap length (table-parts p t) ∙ omega (arith, length-upto (p * p) (entry p (2 ^ t)))

pub byte-made : {p q u x byte : ℕ} {head : List ℕ} (t i : ℕ) → head ≡ header p t → q ≡ 2 ^ t % p → i < table_size p → Stands p q (i - header_size) u x
    → byte ≡ pick (ltb i header_size) (coefficient head i) x → byte ≡ coefficient (table p t) i
byte-made {p = p} {x = x} t i h e inside s is = is ∙ rw (h, table-parts p t) (go (dec_lt i header_size))
  where
    value : x ≡ entry p (2 ^ t) (i - header_size)
    value = s.value ∙ rw e (entry-base p (2 ^ t) (i - header_size))

    go : Dec (i < header_size) → pick (ltb i header_size) (coefficient (header p t) i) x ≡ coefficient (header p t ++ entries p t) i
    go (yes l) = rw (lt-ltb i header_size l) (sym (get_or-append (header p t) (entries p t) 0 i l))
    go (no l) =
        rw (le-ltb i header_size (omega arith), value)
        (sym (coefficient-after (header p t) (entries p t) i (omega arith) ∙ upto-at (p * p) (entry p (2 ^ t)) (i - header_size) (omega arith)))

abbrev pub difference_from : List ℕ → List ℕ → ℕ → ℕ
difference_from buf bs i = first (differs_at buf bs) (length bs - i) i

abbrev pub Searched : List ℕ → List ℕ → ℕ → ℕ → Option ℕ → Type 0
Searched buf bs i j (Some k) = (difference_from buf bs i ≡ k) × ((i ≤ k) × (k < j))
Searched buf bs i j None = difference_from buf bs i ≡ difference_from buf bs (max i j)

module _ (s : Setting) (held : List ℕ) (m w : ℕ) (bounded : Bounds s) (own : held ≡ entries s.p s.t) where
  -- what is looked up is the residues
  found : packed (base s) (upto m (looked_up s.p (base s) held w)) ≡ packed (base s) (upto m (reduced s.p (base s) w))
  found = rw own (looked-up-word s.p (base s) m w (omega (arith, bounded.range.choice.p_low)))

  pub looked-up-room : w < 2 ^ word_bits → packed (base s) (upto m (looked_up s.p (base s) held w)) < 2 ^ word_bits
  looked-up-room h = rw found (lt_of_le_of_lt (reduced-most s.p (base s) m w (pow_pos s.t)) h)

  pub looked-up-made : (v : ℕ) → m ≡ places s → v ≡ packed (base s) (upto m (looked_up s.p (base s) held w)) → v ≡ reduced_word s w
  looked-up-made v all is = is ∙ found ∙ rw all
