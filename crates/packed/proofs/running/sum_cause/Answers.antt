-- `sum_cause` meets its contract. Assumes nothing.
use Rattle.std.proofs.Common.{◌≡◌, Bool, true, false, ◌||◌, ltb, refl, Result, Ok, Err, sym, ap, ◌∙◌, lt-ltb, le-ltb}
use Rattle.std.specs.Result.{is_err}
use Rattle.settings.specs.Limits.{most_pairs}
use Rattle.settings.specs.Answers.{refuses}
use Rattle.settings.specs.Refusals.{says}
use Rattle.settings.specs.declared.refusals.Refusal.{Refusal}
use Rattle.words.specs.Places.{word_cause}
use Rattle.words.specs.WordLaws.{word-told}
use Rattle.packed.specs.Running.{open_pairs, residues_cause, fields_cause, sum_cause}
use Rattle.packed.proofs.running.sum_cause.Goals.{Joined-residues_cause, then-sum-gt-MOST_PAIRS, else-sum-gt-MOST_PAIRS, then-residues_cause, else-residues_cause}
use Rattle.packed.proofs.running.sum_cause.Goals as goal

-- the causes from the left, as the code tests them, and from the right
from-left : (a b c d : Bool) → (((a || b) || c) || d) ≡ (a || (b || (c || d)))
from-left true b c d = refl
from-left false true c d = refl
from-left false false c d = refl

refuses-err : (r : Result (Unit {0}) Refusal) → refuses (says r) ≡ is_err r
refuses-err (Ok v) = refl
refuses-err (Err e) = refl

-- the first two
two : (c : Joined-residues_cause) → c.if-sum-gt-MOST_PAIRS.value ≡ (ltb most_pairs c.args.sum.total || residues_cause c.args.s.setting c.args.sum.residues)
two c = elim c.if-sum-gt-MOST_PAIRS.branch [
  | then-sum-gt-MOST_PAIRS w ↦ w.value-is ∙ rw (lt-ltb most_pairs c.args.sum.total w.if-sum-gt-MOST_PAIRS.true) refl
  | else-sum-gt-MOST_PAIRS w ↦ w.value-is ∙ w.residues_cause.ensures ∙ rw (le-ltb most_pairs c.args.sum.total w.if-sum-gt-MOST_PAIRS.false) refl
]

three : (c : Joined-residues_cause) → c.if-residues_cause.value
    ≡ ((ltb most_pairs c.args.sum.total || residues_cause c.args.s.setting c.args.sum.residues) || fields_cause c.args.s.setting (open_pairs c.args.s.setting c.args.sum) c.args.sum.word)
three c = elim c.if-residues_cause.branch [
  | then-residues_cause w ↦ w.value-is ∙ rw (← two c, w.if-residues_cause.true) refl
  | else-residues_cause w ↦ w.value-is ∙ w.fields_cause.ensures ∙ rw (← two c, w.if-residues_cause.false) refl
]

all : (c : Joined-residues_cause) → (c.if-residues_cause.value || word_cause c.args.s.setting c.args.sum.word) ≡ sum_cause c.args.s.setting c.args.sum
unfolding sum_cause
all c = rw (three c) (from-left (ltb most_pairs c.args.sum.total) (residues_cause c.args.s.setting c.args.sum.residues) (fields_cause c.args.s.setting (open_pairs c.args.s.setting c.args.sum) c.args.sum.word) (word_cause c.args.s.setting c.args.sum.word))

pub returns-then-fields_cause : goal.returns-then-fields_cause
returns-then-fields_cause c = c.if-fields_cause.true ∙ (rw c.if-fields_cause.true at (all (goal.at.returns-then-fields_cause c).Joined-residues_cause))

pub returns-else-fields_cause : goal.returns-else-fields_cause
returns-else-fields_cause c =
    let a = c.args in
    c.is_err.ensures.value ∙ sym (refuses-err c.check_word.result) ∙ ap refuses c.check_word.ensures ∙ word-told a.s.setting a.sum.word c.requires
    ∙ (rw c.if-fields_cause.false at (all (goal.at.returns-else-fields_cause c).Joined-residues_cause))
