-- Tables that fit. Assumes nothing.
--     Tabled s                    what holds past 14: the setting has its bounds, and p is at most 127
--     table-accepted              the setting is accepted where nothing is refused up to 14
--     table-checked               and then that holds
--     table-range                 p and t are then in the range that a table's bytes have
--     fits-through, fits-parted   a search for the first difference tells whether a buffer fits: it is through, or it has found one
--     fits-searched, fits-none    as an option, that first difference is none exactly where a buffer fits
--     stale-found                 and where there is one, it is the place of 15
--     PartsAt buf bs i            the buffer starts as the bytes do, up to place i, where it has ended or has another byte
--     stale-exactly               15 has the place i exactly where the buffer parts from the table there
--     fits-size                   a buffer that fits is long enough
--     fits-entries                and its entries are those of the table
--     fits-looked-up              what it holds for place i of a word, at u_i + p u_(i+1) past the header, is m_i
--     fits-header                 its first bytes are the header
--     fits-changed                a buffer that differs from the table in one of its bytes never fits
--     fits-only                   a buffer fits for one p and one t only, also where the entries of another table are the same
use Rattle.std.specs.Prelude.{ℕ, suc, ◌+◌, ◌-◌, ◌*◌, ◌≤◌, ◌<◌, ◌≡◌, refl, Bool, true, false, not, List, ◌++◌, ◌↔◌, leb, ltb, length, take, drop, Option, Some, None}
use Rattle.std.proofs.Common.{zero-le, sym, ap, ◌∙◌, true≢false, mod-lt, arith, length-take, take-add, take_at, take-take, drop_at, get_or-take, get_or-drop, length-take-le, le-leb, lt-ltb, le-ltb, ltb-true, ltb-false}
use Rattle.std.specs.Option.{is_some}
use Rattle.std.proofs.Math.Decide.{dec_lt}
use Rattle.std.proofs.lemmas.Bool.{lt-leb}
use Rattle.std.proofs.lemmas.Option.{none-some}
use Rattle.polynomials.specs.Indices.{pick, found, First, some}
use Rattle.polynomials.specs.Lists.{coefficient}
use Rattle.polynomials.specs.Places.{shifted, reduced}
use Rattle.polynomials.specs.TableLaws.{table-place, looked-up}
use Rattle.layout.specs.Numbers.{big_endian-only}
use Rattle.layout.specs.Beginnings.{differs_at, first_difference, agrees, starts-with, starts-with-first}
use Rattle.settings.specs.Limits.{largest_table_modulus, word_bits}
use Rattle.settings.specs.Answers.{refused, fine, refuse}
use Rattle.settings.specs.AnswerLaws.{passed_first, passed-last, refuse-first}
use Rattle.settings.specs.Settings.{setting_checks, base}
use Rattle.tables.specs.Tables.{entries, table, header_size, table_size, no_table_cause, fits, stale_check, table_checks}
use Rattle.settings.specs.Bounds.{Bounds, bounds}
use Rattle.tables.specs.TableLaws.{header, header-length, table-parts, table-length}
use Rattle.settings.specs.declared.setting.Setting.{Setting}

pub record Tabled (s : Setting) : Type 0 where
  pub bounded : Bounds s
  pub small : s.p ≤ largest_table_modulus

pub table-accepted : (s : Setting) → table_checks s ≡ fine → setting_checks s ≡ fine
unfolding table_checks
table-accepted s e = (passed_first (setting_checks s) _ tt e).0

pub table-checked : (s : Setting) → table_checks s ≡ fine → Tabled s
unfolding table_checks
table-checked s e =
    let a = passed_first (setting_checks s) (refuse (no_table_cause s.p) 14 0) tt e in
    record { bounded = bounds s a.0; small = ltb-false largest_table_modulus s.p (passed-last (no_table_cause s.p) 14 0 a.1) }

pub table-range : (s : Setting) → Tabled s → (0 < s.p) × (s.p ≤ largest_table_modulus) × (s.t < word_bits)
table-range s h = (omega (arith, h.bounded.range.choice.p_low), h.small, omega (arith, h.bounded.range.t_high))

pub record PartsAt (buf bs : List ℕ) (i : ℕ) : Type 0 where
  pub inside : i < length bs
  pub same : (j : ℕ) → j < i → (j < length buf) × (coefficient buf j ≡ coefficient bs j)
  pub parts : (i < length buf) × (coefficient buf i ≡ coefficient bs i) → ⊥

module _ (s : Setting) (buf : List ℕ) (i : ℕ) where
  abbrev bytes : List ℕ
  bytes = table s.p s.t

  abbrev parted : ℕ → Bool
  parted = differs_at buf bytes

  as-search : not (fits s buf) ≡ some parted (length bytes)
  as-search = rw (starts-with-first buf bytes) (go (dec_lt (first_difference buf bytes) (length bytes)))
    where
      go : Dec (first_difference buf bytes < length bytes) → not (leb (length bytes) (first_difference buf bytes)) ≡ ltb (first_difference buf bytes) (length bytes)
      go (yes h) = rw (lt-leb (length bytes) (first_difference buf bytes) h, lt-ltb (first_difference buf bytes) (length bytes) h)
      go (no h) = rw (le-leb (length bytes) (first_difference buf bytes) (omega arith), le-ltb (first_difference buf bytes) (length bytes) (omega arith))

  pub stale-exactly : (stale_check s buf ≡ refused 15 i) ↔ PartsAt buf bytes i
  stale-exactly = (
    λ e. let h = (refuse-first parted (length bytes) 15 i).0 (rw as-search at e) in
        record {
          inside = h.1;
          same = λ j l. (agrees buf bytes j).0 (h.0.none_before j zero-le l);
          parts = λ both. true≢false (sym (h.0.holds (omega (arith, h.1))) ∙ (agrees buf bytes i).1 both);
        },
    λ h. rw as-search ((refuse-first parted (length bytes) 15 i).1 (at h, h.inside)),
  )
    where
      differs : (b : Bool) → parted i ≡ b → PartsAt buf bytes i → parted i ≡ true
      differs true e h = e
      differs false e h = absurd (h.parts ((agrees buf bytes i).0 e))

      at : PartsAt buf bytes i → First parted (length bytes) 0 i
      at h = record {
        low = zero-le;
        high = omega (arith, h.inside);
        none_before = λ j a l. (agrees buf bytes j).1 (h.same j l);
        holds = λ l. differs (parted i) refl h;
      }

module _ (s : Setting) (buf : List ℕ) where
  -- size and d are the table's size and the first difference, as the code has them
  pub fits-through : (size d : ℕ) → size ≡ table_size s.p → d ≡ first_difference buf (table s.p s.t) → size ≤ d → fits s buf ≡ true
  fits-through size d is found h =
      starts-with-first buf (table s.p s.t) ∙ le-leb (length (table s.p s.t)) (first_difference buf (table s.p s.t)) (omega (arith, table-length s.p s.t))

  pub fits-parted : (size d : ℕ) → size ≡ table_size s.p → d ≡ first_difference buf (table s.p s.t) → d < size → fits s buf ≡ false
  fits-parted size d is found h =
      starts-with-first buf (table s.p s.t) ∙ lt-leb (length (table s.p s.t)) (first_difference buf (table s.p s.t)) (omega (arith, table-length s.p s.t))

  pub fits-searched : (r : Option ℕ) → r ≡ found (first_difference buf (table s.p s.t)) (table_size s.p) → fits s buf ≡ not (is_some r)
  fits-searched r e = rw e (go (dec_lt (first_difference buf (table s.p s.t)) (table_size s.p)))
    where
      go : Dec (first_difference buf (table s.p s.t) < table_size s.p) → fits s buf ≡ not (is_some (found (first_difference buf (table s.p s.t)) (table_size s.p)))
      go (yes h) = rw (lt-ltb (first_difference buf (table s.p s.t)) (table_size s.p) h, fits-parted (table_size s.p) (first_difference buf (table s.p s.t)) refl refl h)
      go (no h) =
          let through : table_size s.p ≤ first_difference buf (table s.p s.t) = omega arith in
          rw (le-ltb (first_difference buf (table s.p s.t)) (table_size s.p) through, fits-through (table_size s.p) (first_difference buf (table s.p s.t)) refl refl through)

  pub fits-none : None ≡ found (first_difference buf (table s.p s.t)) (table_size s.p) → fits s buf ≡ true
  fits-none e = fits-searched None e

  pub stale-found : (i : ℕ) → Some i ≡ found (first_difference buf (table s.p s.t)) (table_size s.p) → stale_check s buf ≡ refused 15 i
  stale-found i e = go (ltb (first_difference buf (table s.p s.t)) (table_size s.p)) refl e
    where
      go : (b : Bool) → ltb (first_difference buf (table s.p s.t)) (table_size s.p) ≡ b → Some i ≡ pick b (Some (first_difference buf (table s.p s.t))) None → stale_check s buf ≡ refused 15 i
      go true l h =
          let same : i ≡ first_difference buf (table s.p s.t) = cc in
          rw (fits-parted (table_size s.p) (first_difference buf (table s.p s.t)) refl refl (ltb-true (first_difference buf (table s.p s.t)) (table_size s.p) l), same)
      go false l h = absurd (none-some i (sym h))

  -- what a buffer that fits starts with
  whole : fits s buf ≡ true → take (table_size s.p) buf ≡ header s.p s.t ++ entries s.p s.t
  whole e = rw table-length at ((starts-with buf (table s.p s.t)).0 e) ∙ table-parts s.p s.t

  pub fits-size : fits s buf ≡ true → table_size s.p ≤ length buf
  fits-size e = omega (arith, length-take (table_size s.p) buf, ap length (rw table-length at ((starts-with buf (table s.p s.t)).0 e)), table-length s.p s.t)

  pub fits-entries : (size : ℕ) → size ≡ table_size s.p → fits s buf ≡ true → take (size - header_size) (drop header_size buf) ≡ entries s.p s.t
  fits-entries size is e =
      let front : length (take header_size buf) ≡ header_size = length-take-le header_size buf (omega (arith, fits-size e)) in
      let rest : size - header_size ≡ s.p * s.p = omega arith in
      rw rest
      (sym (drop_at (take header_size buf) (take (s.p * s.p) (drop header_size buf)) header_size front)
      ∙ ap (drop header_size) (sym (take-add header_size (s.p * s.p) buf) ∙ whole e))

  pub fits-looked-up : (w i : ℕ) → 0 < s.p → fits s buf ≡ true
      → coefficient buf (header_size + (shifted s.p (base s) w i + s.p * shifted s.p (base s) w (suc i))) ≡ reduced s.p (base s) w i
  fits-looked-up w i h e =
      let u = shifted s.p (base s) w in
      let j = u i + s.p * u (suc i) in
      let rest : table_size s.p - header_size ≡ s.p * s.p = omega arith in
      let inside : j < table_size s.p - header_size = rw rest (table-place s.p (u i) (u (suc i)) (mod-lt _ h) (mod-lt _ h)) in
      sym (get_or-drop header_size buf j 0)
      ∙ sym (get_or-take (table_size s.p - header_size) (drop header_size buf) j 0 inside)
      ∙ ap (λ (es : List ℕ). coefficient es j) (fits-entries (table_size s.p) refl e)
      ∙ looked-up s.p (base s) w i h

  pub fits-changed : (i : ℕ) → i < table_size s.p → (coefficient buf i ≡ coefficient (table s.p s.t) i → ⊥) → fits s buf ≡ false
  fits-changed i h other = go (fits s buf) refl
    where
      bytes : List ℕ
      bytes = table s.p s.t

      go : (b : Bool) → fits s buf ≡ b → fits s buf ≡ false
      go false e = e
      go true e =
          let same : coefficient buf i ≡ coefficient bytes i = sym (get_or-take (length bytes) buf i 0 (omega (arith, table-length s.p s.t))) ∙ ap (λ (l : List ℕ). coefficient l i) ((starts-with buf bytes).0 e) in
          absurd (other same)

  pub fits-header : fits s buf ≡ true → take header_size buf ≡ header s.p s.t
  fits-header e =
      sym (take-take header_size (table_size s.p) buf (omega arith)) ∙ ap (take header_size) (whole e) ∙ take_at (header s.p s.t) (entries s.p s.t) header_size (header-length s.p s.t)

pub fits-only : (a b : Setting) (buf : List ℕ) → Tabled a → Tabled b → fits a buf ≡ true → fits b buf ≡ true → (a.p ≡ b.p) × (a.t ≡ b.t)
fits-only a b buf ha hb ea eb =
    let same : header a.p a.t ≡ header b.p b.t = sym (fits-header a buf ea) ∙ fits-header b buf eb in (
      big_endian-only 2 a.p b.p (omega (arith, ha.small)) (omega (arith, hb.small)) (ap (λ (l : List ℕ). take 2 (drop 5 l)) same),
      big_endian-only 1 a.t b.t (omega (arith, ha.bounded.range.t_high)) (omega (arith, hb.bounded.range.t_high)) (ap (λ (l : List ℕ). drop 7 l) same),
    )
