-- What reduce answers, by the fields of the word and by its shifted residues; from the promises alone. Assumes nothing.
--     reduce-checked      where reduce answers a word, nothing was refused, and the word is that of the m
--     reduce-field        field i of what reduce answers is m_i, the old field modulo p
--     reduce-identity     document 003's: it is (u_i - q u_(i+1)) mod p, for the u that shifted residues writes
--     reduce-last         the last field is the last u
--     reduce-divides      where p divides q, every field is its u. Elsewhere it need not be: shifted-no-residue of polynomials
use Rattle.std.specs.Prelude.{ℕ, suc, ◌-◌, ◌*◌, ◌^◌, ◌<◌, ◌≡◌, List, length, drop, Ok}
use Rattle.std.specs.Int.{◌∣◌}
use Rattle.std.proofs.Common.{sym, ap, ◌∙◌, arith, pow_pos}
use Rattle.std.proofs.Math.ListN.{get_or-append}
use Rattle.polynomials.specs.Indices.{upto}
use Rattle.polynomials.specs.IndexLaws.{length-upto, upto-at}
use Rattle.polynomials.specs.Lists.{coefficient}
use Rattle.polynomials.specs.Places.{field, shifted, reduced, minus}
use Rattle.polynomials.specs.ReductionLaws.{field-reduced, reduced-shifted, reduced-last, reduced-divides}
use Rattle.settings.specs.AnswerLaws.{passed_first}
use Rattle.settings.specs.Settings.{base, places}
use Rattle.words.specs.Places.{word_checks, places_checks, ShiftedResidues, reduced_word, reduce_answer, Reduces}
use Rattle.words.specs.WordLaws.{WordFits, word-checked}
use Rattle.settings.specs.declared.setting.Setting.{Setting}

pub reduce-checked : (s : Setting) (w v : ℕ) → Reduces s w (Ok v) → WordFits s w × (v ≡ reduced_word s w)
unfolding reduce_answer
reduce-checked s w v e =
    let a = passed_first (word_checks s w) _ v (sym e) in
    (word-checked s w a.0, cc a.1)

pub reduce-field : (s : Setting) (w v i : ℕ) → Reduces s w (Ok v) → i < places s → field (base s) v i ≡ reduced s.p (base s) w i
reduce-field s w v i e h = rw (reduce-checked s w v e).1 (field-reduced s.p (base s) (places s) w i (pow_pos s.t) h)

-- what shifted residues has written at place i
shifted_at : (s : Setting) (w m i : ℕ) (old us : List ℕ) → ShiftedResidues s w old (Ok m) us → i < places s → coefficient us i ≡ shifted s.p (base s) w i
shifted_at s w m i old us e h =
    let u = shifted s.p (base s) w in
    let fine-checks = (passed_first (places_checks s w (length old)) _ m (sym e.0)).0 in
    ap (λ (l : List ℕ). coefficient l i) e.1
    ∙ rw fine-checks (get_or-append (upto (places s) u) (drop (length (upto (places s) u)) old) 0 i (rw length-upto h) ∙ upto-at (places s) u i h)

module _ (s : Setting) (w v m : ℕ) (old us : List ℕ) (reduces : Reduces s w (Ok v)) (shifts : ShiftedResidues s w old (Ok m) us) where
  u-at : (i : ℕ) → i < places s → coefficient us i ≡ shifted s.p (base s) w i
  u-at i h = shifted_at s w m i old us shifts h

  fits : WordFits s w
  fits = (reduce-checked s w v reduces).0

  pub reduce-identity : (i : ℕ) → suc i < places s → field (base s) v i ≡ minus s.p (coefficient us i) (base s * coefficient us (suc i))
  reduce-identity i h =
      reduce-field s w v i reduces (omega arith)
      ∙ reduced-shifted s.p (base s) w i (omega (arith, fits.bounded.range.choice.p_low))
      ∙ rw (u-at i (omega arith), u-at (suc i) h)

  pub reduce-last : field (base s) v (2 * s.k - 2) ≡ coefficient us (2 * s.k - 2)
  reduce-last =
      let last : suc (2 * s.k - 2) ≡ places s = omega (arith, fits.bounded.range.choice.k_low) in
      let below : w < base s ^ suc (2 * s.k - 2) = rw last fits.below in
      reduce-field s w v (2 * s.k - 2) reduces (omega arith) ∙ reduced-last s.p (base s) w (2 * s.k - 2) (pow_pos s.t) below ∙ sym (u-at (2 * s.k - 2) (omega arith))

  pub reduce-divides : s.p ∣ base s → (i : ℕ) → i < places s → field (base s) v i ≡ coefficient us i
  reduce-divides d i h = reduce-field s w v i reduces h ∙ reduced-divides s.p (base s) w i d ∙ sym (u-at i h)
