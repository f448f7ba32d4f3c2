-- `joined` meets its contract. Assumes nothing.
use Rattle.std.proofs.Common.{ℕ, ◌≡◌, ◌+◌, ◌-◌, ◌≤◌, refl, List, ◌++◌, length, take, drop, replicate, sym, ap, ◌∙◌, arith, length-append, append_assoc, drop_at, take_at, drop-drop}
use borrow.Rule.Slice.PartMut.{put_mid}
use Rattle.polynomials.specs.Indices.{upto}
use Rattle.polynomials.specs.Lists.{coefficient}
use Rattle.polynomials.specs.ListLaws.{coefficients}
use Rattle.jobs.specs.States.{held_bytes}
use Rattle.jobs.specs.ByteLaws.{filled-zeros}
use Rattle.jobs.proofs.bytes.joined.Goals as goal

-- the one and then the other, put over zeros
put : (xs ys now then : List ℕ) (n : ℕ) → length xs + length ys ≤ n → now ≡ xs → then ≡ ys
    → put_mid (length xs) (length xs + length ys - length xs) (now ++ drop (length xs) (replicate n 0)) then ≡ upto n (coefficient (xs ++ ys))
put xs ys now then n room a b =
    let k : length xs + length ys - length xs ≡ length ys = omega arith in
    let zeros : List ℕ = replicate n 0 in
    let front : take (length xs) (xs ++ drop (length xs) zeros) ≡ xs = take_at xs (drop (length xs) zeros) (length xs) refl in
    let rest : drop (length ys) (drop (length xs) (xs ++ drop (length xs) zeros)) ≡ drop (length xs + length ys) zeros = ap (drop (length ys)) (drop_at xs (drop (length xs) zeros) (length xs) refl) ∙ drop-drop (length ys) (length xs) zeros in
    let all : (xs ++ ys) ++ drop (length xs + length ys) zeros ≡ upto n (coefficient (xs ++ ys)) = rw (coefficients (xs ++ ys), length-append xs ys) at (filled-zeros (xs ++ ys) n (rw length-append room)) in
    rw (a, b, k, front, rest) (sym (append_assoc xs ys (drop (length xs + length ys) zeros)) ∙ all)

pub returns : goal.returns
returns c = put c.args.first.now c.args.second.now c.copy_from_slice.new.self c.copy_from_slice-2.new.self held_bytes c.requires c.copy_from_slice.ensures.after c.copy_from_slice-2.ensures.after
