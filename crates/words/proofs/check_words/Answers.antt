-- `check_words` meets its promise. Assumes nothing.
use Rattle.std.proofs.Common.{ℕ, ◌≡◌, refl, List, length, Some, None, Bool, true, false, sym, ◌∙◌}
use Rattle.std.proofs.lemmas.Option.{none-some}
use Rattle.polynomials.specs.Indices.{pick, found, some}
use Rattle.settings.specs.Answers.{refused, refuse, fine}
use Rattle.settings.specs.declared.setting.Setting.{Setting}
use Rattle.words.specs.Places.{first_bad_word, bad_word, words_check, words_checks}
use Rattle.words.proofs.check_words.Goals as goal

module _ (s : Setting) (ws : List ℕ) where
  at-11 : (bad : ℕ) → Some bad ≡ found (first_bad_word s ws) (length ws) → words_check s ws ≡ refused 11 bad
  at-11 bad e = go (some (bad_word s ws) (length ws)) e
    where
      go : (b : Bool) → Some bad ≡ pick b (Some (first_bad_word s ws)) None → refuse b 11 (first_bad_word s ws) ≡ refused 11 bad
      go true h = let same : bad ≡ first_bad_word s ws = cc in rw same
      go false h = absurd (none-some bad (sym h))

  past-11 : None ≡ found (first_bad_word s ws) (length ws) → words_check s ws ≡ fine
  past-11 e = go (some (bad_word s ws) (length ws)) e
    where
      go : (b : Bool) → None ≡ pick b (Some (first_bad_word s ws)) None → refuse b 11 (first_bad_word s ws) ≡ fine
      go true h = absurd (none-some (first_bad_word s ws) h)
      go false h = refl

pub returns-in-Some : goal.returns-in-Some
unfolding words_checks
returns-in-Some c =
    let s = c.in_ok-s.ensures in
    rw (s.0, ← s.1, at-11 c.in_ok-s.s.setting c.args.words.now c.in-Some.bad (sym c.in-Some.is ∙ c.first_bad_word.ensures))

pub returns-in-None : goal.returns-in-None
unfolding words_checks
returns-in-None c =
    let s = c.in_ok-s.ensures in
    rw (s.0, ← s.1, past-11 c.in_ok-s.s.setting c.args.words.now (sym c.in-None.is ∙ c.first_bad_word.ensures))
