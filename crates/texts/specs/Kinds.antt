-- What a byte is in a line of text, and searches for a kind. Definitions only.
--     is_blank c, is_letter c       a space or the end of a line, also with a carriage return; a small letter. is_digit is that of `layout`
--     code_of k                    the number of a kind
--     blank_kind, digit_kind, letter_kind, colon_kind, comment_kind, other_kind
--                                 these numbers
--     kind_of c                    the kind of a byte
--     kind-once                   it is one
--     wanted c kind is            the byte is of that kind, where `is` is true, or of another, where it is false
--     wants_of k is               the test of a kind, or of every other
--     is_kind cs kind is j         so is the byte at place j
--     passes_at p cs j            the byte at place j passes the test p
--     place_where p cs i          the first place from i on where that holds, and the text's end where there is none; past the end, i itself
--     place_of cs kind is i        so it is with `wanted`
--     SeeksBy p cs i r            what the search promises for a test p: that place
--     Seeks cs kind is i r        so it is for a kind, or for every other kind
--     seek-by-once, seek-once     each allows one answer
--     seek-number                 the first gives the second, for the test of a kind or of every other, by any number
--     seek-kind                   so it does by a kind
use Rattle.std.specs.Prelude.{ℕ, ◌-◌, ◌≡◌, Bool, false, not, ◌||◌, List, eqb, ltb, length}
use Rattle.std.proofs.Common.{sym, ◌∙◌}
use Rattle.polynomials.specs.Indices.{pick, first}
use Rattle.polynomials.specs.Lists.{coefficient}
use Rattle.layout.specs.Decimals.{is_digit}
use Rattle.texts.specs.declared.kinds.Kind.{Kind}
use Rattle.texts.specs.declared.kinds.Kind.TheVariants.{Blank, Digit, Letter, Colon, Comment, Other}

abbrev pub is_blank : ℕ → Bool
is_blank c = eqb c 32 || (eqb c 10 || eqb c 13)

abbrev pub is_letter : ℕ → Bool
is_letter c = pick (ltb c 97) false (ltb c 123)

abbrev pub blank_kind : ℕ
blank_kind = 0

abbrev pub digit_kind : ℕ
digit_kind = 1

abbrev pub letter_kind : ℕ
letter_kind = 2

abbrev pub colon_kind : ℕ
colon_kind = 3

abbrev pub comment_kind : ℕ
comment_kind = 4

abbrev pub other_kind : ℕ
other_kind = 5

abbrev pub code_of : Kind → ℕ
code_of Blank = blank_kind
code_of Digit = digit_kind
code_of Letter = letter_kind
code_of Colon = colon_kind
code_of Comment = comment_kind
code_of Other = other_kind

unfoldable pub kind_of : ℕ → ℕ
kind_of c =
    pick (is_blank c) blank_kind (pick (is_digit c) digit_kind (pick (is_letter c) letter_kind (pick (eqb c 58) colon_kind (pick (eqb c 35) comment_kind other_kind))))

pub kind-once : (c r s : ℕ) → r ≡ kind_of c → s ≡ kind_of c → r ≡ s
kind-once c r s a b = a ∙ sym b

abbrev pub wanted : ℕ → ℕ → Bool → Bool
wanted c kind is = pick is (eqb (kind_of c) kind) (not (eqb (kind_of c) kind))

abbrev pub wants_of : Kind → Bool → ℕ → Bool
wants_of k is c = wanted c (code_of k) is

abbrev pub passes_at : (ℕ → Bool) → List ℕ → ℕ → Bool
passes_at p cs j = p (coefficient cs j)

unfoldable pub place_where : (ℕ → Bool) → List ℕ → ℕ → ℕ
place_where p cs i = first (passes_at p cs) (length cs - i) i

abbrev pub is_kind : List ℕ → ℕ → Bool → ℕ → Bool
is_kind cs kind is j = wanted (coefficient cs j) kind is

unfoldable pub place_of : List ℕ → ℕ → Bool → ℕ → ℕ
place_of cs kind is i = first (is_kind cs kind is) (length cs - i) i

abbrev pub SeeksBy : (ℕ → Bool) → List ℕ → ℕ → ℕ → Type 0
SeeksBy p cs i r = r ≡ place_where p cs i

abbrev pub Seeks : List ℕ → ℕ → Bool → ℕ → ℕ → Type 0
Seeks cs kind is i r = r ≡ place_of cs kind is i

pub seek-by-once : (p : ℕ → Bool) (cs : List ℕ) (i r s : ℕ) → SeeksBy p cs i r → SeeksBy p cs i s → r ≡ s
seek-by-once p cs i r s a b = a ∙ sym b

pub seek-once : (cs : List ℕ) (kind : ℕ) (is : Bool) (i r s : ℕ) → Seeks cs kind is i r → Seeks cs kind is i s → r ≡ s
seek-once cs kind is i r s a b = a ∙ sym b

pub seek-number : (kind : ℕ) (is : Bool) (cs : List ℕ) (i r : ℕ) → SeeksBy (λ c. wanted c kind is) cs i r → Seeks cs kind is i r
unfolding place_where place_of
seek-number kind is cs i r a = a

pub seek-kind : (k : Kind) (is : Bool) (cs : List ℕ) (i r : ℕ) → SeeksBy (wants_of k is) cs i r → Seeks cs (code_of k) is i r
seek-kind k = seek-number (code_of k)
