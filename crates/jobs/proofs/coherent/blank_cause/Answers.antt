-- `blank_cause` meets its contract: a record differs from the blank one exactly where one of its numbers is not zero. Assumes nothing.
use Rattle.std.proofs.Common.{ℕ, ◌≡◌, refl, sym, ap, ◌∙◌, Bool, true, false, not, [], ◌||◌, ◌&&◌, List, length, replicate, eqb, arith, rules, true≢false}
use lib.Pointwise.{pointwise, bytes_decides}
use Rattle.polynomials.specs.Indices.{first}
use Rattle.polynomials.specs.IndexLaws.{exceeds-none}
use Rattle.polynomials.specs.Lists.{coefficient}
use Rattle.polynomials.specs.ListLaws.{lists_agree, coefficient-zeros}
use Rattle.packed.specs.declared.running.Record.{Record}
use Rattle.jobs.specs.States.{nonzero_cause, blank_cause}
use Rattle.jobs.proofs.coherent.blank_cause.Goals as goal

none-zero : nonzero_cause (replicate 15 0) ≡ false
unfolding first
none-zero = refl

residues : (rs : List ℕ) → length rs ≡ 15 → not (pointwise eqb rs (replicate 15 0)) ≡ nonzero_cause rs
residues rs size = go (pointwise eqb rs (replicate 15 0)) refl
  where
    all : nonzero_cause rs ≡ false → rs ≡ replicate 15 0
    all e = lists_agree rs (replicate 15 0) size (λ j l. let most = (exceeds-none (length rs) (coefficient rs) (λ i. 0)).0 e j l in omega (arith, coefficient-zeros [] 15 j))

    some : pointwise eqb rs (replicate 15 0) ≡ false → (b : Bool) → nonzero_cause rs ≡ b → true ≡ b
    some e true h = refl
    some e false h = absurd (true≢false (sym ((bytes_decides rs (replicate 15 0)).1 (all h)) ∙ e))

    go : (b : Bool) → pointwise eqb rs (replicate 15 0) ≡ b → not b ≡ nonzero_cause rs
    go true e = let same : rs ≡ replicate 15 0 = (bytes_decides rs (replicate 15 0)).0 e in sym (ap nonzero_cause same ∙ none-zero)
    go false e = some e (nonzero_cause rs) refl

one-of : (p k t n total word rest : Bool) → not ((p && (k && (t && n))) && (total && (word && rest))) ≡ (not p || (not k || (not t || (not n || (not total || (not word || not rest))))))
one-of false k t n total word rest = refl
one-of true false t n total word rest = refl
one-of true true false n total word rest = refl
one-of true true true false total word rest = refl
one-of true true true true false word rest = refl
one-of true true true true true false rest = refl
one-of true true true true true true rest = refl

told : (r : Record) → length r.sum.residues ≡ 15
    → not ((eqb r.setting.p 0 && (eqb r.setting.k 0 && (eqb r.setting.t 0 && eqb r.setting.n 0))) && (eqb r.sum.total 0 && (eqb r.sum.word 0 && pointwise eqb r.sum.residues (replicate 15 0)))) ≡ blank_cause r
told r size = rw (residues r.sum.residues size) at (one-of (eqb r.setting.p 0) (eqb r.setting.k 0) (eqb r.setting.t 0) (eqb r.setting.n 0) (eqb r.sum.total 0) (eqb r.sum.word 0) (pointwise eqb r.sum.residues (replicate 15 0)))

pub returns : goal.returns
returns c = c.ne.ensures ∙ rw c.blank.ensures (told c.args.running (search rules))
