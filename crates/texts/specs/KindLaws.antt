-- Laws of the kinds of bytes. Assumes nothing.
--     digit-bounds                 a digit is a byte from 48 to 57
--     digit-no-blank               no byte is both a digit and a blank
--     digit-kind, kind-digit, kind-no-digit
--                                  a byte is of the kind of digits exactly where it is one
--     letter-kind, other-kind      the kinds of other bytes
--     kind-blank, kind-stray       a byte of the kind of blanks is one; one of neither kind is neither
--     code-once                    a kind is known by its number
--     told-digit, told-no-digit, told-blank, told-stray
--                                  so it is where a byte's kind is looked at
use Rattle.std.specs.Prelude.{ℕ, ◌≤◌, ◌<◌, ◌≡◌, refl, true, false, not, ◌||◌, eqb}
use Rattle.std.proofs.Common.{sym, ap, ◌∙◌, arith}
use Rattle.std.proofs.lemmas.Bool.Decides.{nat_tests}
use Rattle.polynomials.specs.Indices.{pick}
use Rattle.layout.specs.Decimals.{is_digit}
use Rattle.texts.specs.Kinds.{code_of, is_blank, is_letter, blank_kind, digit_kind, letter_kind, other_kind, kind_of}
use Rattle.texts.specs.declared.kinds.Kind.{Kind}
use Rattle.texts.specs.declared.kinds.Kind.TheVariants.{Blank, Digit, Letter, Colon, Comment, Other}

pub digit-bounds : (c : ℕ) → is_digit c ≡ true → (48 ≤ c) × (c < 58)
digit-bounds c h = (grind (arith, nat_tests), grind (arith, nat_tests))

pub digit-no-blank : (c : ℕ) → is_digit c ≡ true → is_blank c ≡ false
digit-no-blank c h = grind (arith, nat_tests)

pub digit-kind : (c : ℕ) → is_digit c ≡ true → kind_of c ≡ digit_kind
unfolding kind_of
digit-kind c h = grind (arith, nat_tests)

pub letter-kind : (c : ℕ) → 97 ≤ c → c ≤ 122 → kind_of c ≡ letter_kind
unfolding kind_of
letter-kind c low high = grind (arith, nat_tests)

pub other-kind : (c : ℕ) → (c ≡ 32 → ⊥) → (c ≡ 10 → ⊥) → (c ≡ 13 → ⊥) → is_digit c ≡ false → is_letter c ≡ false → (c ≡ 58 → ⊥) → (c ≡ 35 → ⊥) → kind_of c ≡ other_kind
unfolding kind_of
other-kind c s l r d w k m = grind (arith, nat_tests)

pub kind-no-digit : (c : ℕ) → (kind_of c ≡ digit_kind → ⊥) → is_digit c ≡ false
unfolding kind_of
kind-no-digit c h = grind (arith, nat_tests)

pub kind-digit : (c : ℕ) → kind_of c ≡ digit_kind → is_digit c ≡ true
unfolding kind_of
kind-digit c h = grind (arith, nat_tests)

pub kind-blank : (c : ℕ) → kind_of c ≡ blank_kind → is_blank c ≡ true
unfolding kind_of
kind-blank c h = grind (arith, nat_tests)

pub kind-stray : (c : ℕ) → (kind_of c ≡ digit_kind → ⊥) → (kind_of c ≡ blank_kind → ⊥) → not (is_blank c || is_digit c) ≡ true
unfolding kind_of
kind-stray c nd nb = grind (arith, nat_tests)

-- ---- kinds that were looked at

abbrev coded : ℕ → Kind
coded n = pick (eqb n 0) Blank (pick (eqb n 1) Digit (pick (eqb n 2) Letter (pick (eqb n 3) Colon (pick (eqb n 4) Comment Other))))

code-back : (k : Kind) → coded (code_of k) ≡ k
code-back Blank = refl
code-back Digit = refl
code-back Letter = refl
code-back Colon = refl
code-back Comment = refl
code-back Other = refl

pub code-once : (k l : Kind) → code_of k ≡ code_of l → k ≡ l
code-once k l e = sym (code-back k) ∙ ap coded e ∙ code-back l

module _ (k : Kind) (c : ℕ) (is : code_of k ≡ kind_of c) where
  pub told-digit : k ≡ Digit → is_digit c ≡ true
  told-digit e = kind-digit c (sym is ∙ ap code_of e)

  pub told-no-digit : (k ≡ Digit → ⊥) → is_digit c ≡ false
  told-no-digit none = kind-no-digit c (λ e. none (code-once k Digit (is ∙ e)))

  pub told-blank : k ≡ Blank → is_blank c ≡ true
  told-blank e = kind-blank c (sym is ∙ ap code_of e)

  pub told-stray : (k ≡ Digit → ⊥) → (k ≡ Blank → ⊥) → not (is_blank c || is_digit c) ≡ true
  told-stray none neither = kind-stray c (λ e. none (code-once k Digit (is ∙ e))) (λ e. neither (code-once k Blank (is ∙ e)))
