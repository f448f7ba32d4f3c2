-- Words that 11 takes. Assumes nothing.
--     span-power       2^((2k-1)t) is q^(2k-1)
--     within-span      the word of a batch of at most n products is below it
--     word-top         11, told by what stands from the last place on
--     WordFits s w     the setting has its bounds, and the word is below q^(2k-1)
--     word-checked     so it is where nothing is refused up to 11
--     word-told        for an accepted setting 11 alone decides
--     words-check      11 is given for no word of a list exactly where it is given for none of them alone
--     words-refused    11 has the place i in a list exactly where word i meets it, and none before
--     words-checked    for an accepted setting that alone decides, in a list too
--     places-checked   and up to 10, where the list lent is long enough too
use Rattle.std.specs.Prelude.{ℕ, suc, ◌-◌, ◌*◌, ◌/◌, ◌^◌, ◌≤◌, ◌<◌, ◌≡◌, refl, Bool, true, false, List, ◌↔◌, leb, length}
use Rattle.std.proofs.Common.{sym, lt_of_not-le, lt_of_le_of_lt, arith, pow_pos, le-leb, leb-false, ltb-false}
use Rattle.std.proofs.Math.Decide.{dec_lt, dec_le}
use Rattle.std.proofs.lemmas.Bool.{lt-leb}
use Rattle.polynomials.specs.Indices.{upto, First, some}
use Rattle.polynomials.specs.IndexLaws.{length-upto, upto-at, upto-past, upto-most, some-none}
use Rattle.polynomials.specs.Lists.{coefficient, Below, Within, batch_most}
use Rattle.polynomials.specs.BoundLaws.{batch-past}
use Rattle.polynomials.specs.Places.{packed}
use Rattle.polynomials.specs.PlaceLaws.{packed-agree, packed-below, top-place, power-power}
use Rattle.settings.specs.Answers.{refused, fine, refuse, refuses}
use Rattle.settings.specs.AnswerLaws.{passed_first, passed-last, refuse-first}
use Rattle.settings.specs.SharedAnswers.{short_cause}
use Rattle.settings.specs.Settings.{setting_checks, base, places, span_of}
use Rattle.words.specs.Places.{word_cause, word_checks, bad_word, first_bad_word, words_check, words_checks, places_checks}
use Rattle.settings.specs.Bounds.{Bounds, bounds}
use Rattle.settings.specs.declared.setting.Setting.{Setting}

pub span-power : (s : Setting) → 2 ^ span_of s ≡ base s ^ places s
span-power s = sym (power-power 2 s.t (places s))

pub within-span : (s : Setting) (xs : List ℕ) → Bounds s → Within (batch_most s.p s.k s.n) xs → packed (base s) xs < 2 ^ span_of s
within-span s xs b w =
    let ys : List ℕ = upto (places s) (coefficient xs) in
    let low : Below (base s) xs = λ j. lt_of_le_of_lt (w j) (b.field_fits j) in
    let same : packed (base s) xs ≡ packed (base s) ys = packed-agree (base s) xs ys (λ j. at j (dec_lt j (places s))) in
    let below : packed (base s) ys < base s ^ length ys = packed-below (base s) ys (λ j. lt_of_le_of_lt (upto-most (places s) (coefficient xs) j) (low j)) in
    let size : length ys ≡ places s = length-upto (places s) (coefficient xs) in
    rw (same, span-power s) (rw size at below)
  where
    at : (j : ℕ) → Dec (j < places s) → coefficient xs j ≡ coefficient (upto (places s) (coefficient xs)) j
    at j (yes l) = sym (upto-at (places s) (coefficient xs) j l)
    at j (no l) =
        let none : coefficient xs j ≤ 0 = rw (batch-past s.p s.k s.n j (omega arith)) at (w j) in
        omega (arith, upto-past (places s) (coefficient xs) j (omega arith))

pub word-top : (s : Setting) (w : ℕ) → 1 ≤ s.k → word_cause s w ≡ leb (base s) (w / 2 ^ ((2 * s.k - 2) * s.t))
word-top s w h = rw (span-power s, ← power-power 2 s.t m, last) (go (dec_le (base s ^ suc m) w))
  where
    m : ℕ
    m = 2 * s.k - 2

    last : 2 * s.k - 1 ≡ suc m
    last = omega arith

    reach : (base s ^ suc m ≤ w) ↔ (base s ≤ w / base s ^ m)
    reach = top-place (base s) m w (pow_pos s.t)

    go : Dec (base s ^ suc m ≤ w) → leb (base s ^ suc m) w ≡ leb (base s) (w / base s ^ m)
    go (yes l) = rw (le-leb (base s ^ suc m) w l, le-leb (base s) (w / base s ^ m) (reach.0 l))
    go (no l) = rw (lt-leb (base s ^ suc m) w (omega arith), lt-leb (base s) (w / base s ^ m) (lt_of_not-le (λ g. l (reach.1 g))))

pub record WordFits (s : Setting) (w : ℕ) : Type 0 where
  pub bounded : Bounds s
  pub below : w < base s ^ places s

pub word-checked : (s : Setting) (w : ℕ) → word_checks s w ≡ fine → WordFits s w
unfolding word_checks
word-checked s w e =
    let a = passed_first (setting_checks s) (refuse (word_cause s w) 11 0) tt e in
    record { bounded = bounds s a.0; below = rw (span-power s) at (leb-false (2 ^ span_of s) w (passed-last (word_cause s w) 11 0 a.1)) }

pub word-told : (s : Setting) (w : ℕ) → setting_checks s ≡ fine → refuses (word_checks s w) ≡ word_cause s w
unfolding word_checks
word-told s w e = rw e (go (word_cause s w))
  where
    go : (cause : Bool) → refuses (refuse cause 11 0) ≡ cause
    go true = refl
    go false = refl

pub words-check : (s : Setting) (ws : List ℕ) → (words_check s ws ≡ fine) ↔ ((i : ℕ) → i < length ws → word_cause s (coefficient ws i) ≡ false)
words-check s ws = (λ e. (some-none (bad_word s ws) (length ws)).0 (passed-last (some (bad_word s ws) (length ws)) 11 (first_bad_word s ws) e), λ h. rw ((some-none (bad_word s ws) (length ws)).1 h))

pub words-refused : (s : Setting) (ws : List ℕ) (i : ℕ) → (words_check s ws ≡ refused 11 i) ↔ (First (bad_word s ws) (length ws) 0 i × (i < length ws))
words-refused s ws i = refuse-first (bad_word s ws) (length ws) 11 i

pub words-checked : (s : Setting) (ws : List ℕ) → setting_checks s ≡ fine → words_checks s ws ≡ words_check s ws
unfolding words_checks
words-checked s ws e = rw e

pub places-checked : (s : Setting) (w len : ℕ) → places_checks s w len ≡ fine → WordFits s w × (places s ≤ len)
unfolding places_checks
places-checked s w len e =
    let a = passed_first (word_checks s w) (refuse (short_cause (places s) len) 10 0) tt e in
    (word-checked s w a.0, ltb-false len (places s) (passed-last (short_cause (places s) len) 10 0 a.1))
