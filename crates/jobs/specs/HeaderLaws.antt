-- Laws of the header, and of taking its bytes. Assumes nothing.
--     Header bs                    what an accepted header says: it is complete, its setting is accepted, and the declared bytes are so many pairs
--     header-passed                no check refuses exactly such a header
--     header-same, length-same, setting_same, declared_same
--                                  the header's checks and numbers do not look at later bytes
--     header-adding, header-room   after it pairs can be added up, and all that is declared is to come
--     header-opened                bytes that start with a complete header: its checks are made, and then the bytes after it are taken
use Rattle.std.specs.Prelude.{◌≡◌, not, ◌||◌, List, ◌++◌, eqb, length, ℕ, ◌+◌, ◌-◌, ◌/◌, ◌%◌, ◌≤◌}
use Rattle.std.proofs.Common.{sym, ◌∙◌, mul_comm, div-add-mod', zero-add, arith, length-append, drop_at, le-ltb, ltb-false, eqb-true}
use Rattle.std.proofs.Math.Path.{ap}
use Rattle.std.proofs.Math.Bool.{Bool}
use Rattle.std.proofs.Math.Nat.{sub-zero}
use Rattle.std.proofs.Math.Dec.{ltb}
use Rattle.std.proofs.Math.ListN.{get_or-append}
use Rattle.std.proofs.lemmas.Bool.{not-false}
use Rattle.polynomials.specs.Tests.{neither}
use Rattle.layout.specs.Numbers.{number_at, number_at-same}
use Rattle.settings.specs.Limits.{most_pairs}
use Rattle.settings.specs.Answers.{Verdict, fine, refuse, ◌and_then◌}
use Rattle.settings.specs.AnswerLaws.{passed, passed-last, passed_first}
use Rattle.settings.specs.Settings.{setting_checks}
use Rattle.packed.specs.Running.{record_full_cause, fresh_sum}
use Rattle.packed.specs.Joining.{fresh-coherent}
use Rattle.settings.specs.declared.setting.Setting.{Setting}
use Rattle.jobs.specs.Jobs.{header_bytes, length_in, version_in, setting_in, pair_bytes, declared_bytes, declared_pairs, header_cause, ragged_cause, header_checks}
use Rattle.jobs.specs.States.{room, settling, pairs_after, header_after}
use Rattle.jobs.specs.Adding.{Adding}

pub record Header (bs : List ℕ) : Type 0 where
  pub long : header_bytes ≤ length bs
  pub counted : 11 ≤ length_in bs
  pub accepted : setting_checks (setting_in bs) ≡ fine
  pub whole : declared_bytes bs % pair_bytes (setting_in bs).k ≡ 0
  pub few : declared_pairs bs ≤ most_pairs

pub header-passed : (bs : List ℕ) → header_checks bs ≡ fine → Header bs
unfolding header_checks
header-passed bs e =
    let first = passed (header_cause bs) 17 0 _ tt e in
    let second = passed_first (setting_checks (setting_in bs)) _ tt first.1 in
    let third = passed (ragged_cause bs) 17 0 _ tt second.1 in
    let short = neither (ltb (length bs) header_bytes) _ first.0 in
    let others = neither (not (eqb (version_in bs) 1)) _ short.1 in
    record {
      long = ltb-false (length bs) header_bytes short.0;
      counted = ltb-false (length_in bs) 11 others.1;
      accepted = second.0;
      whole = eqb-true (declared_bytes bs % pair_bytes (setting_in bs).k) 0 (not-false _ third.0);
      few = rw (zero-add (declared_pairs bs)) at (ltb-false most_pairs (0 + declared_pairs bs) (passed-last (record_full_cause 0 (declared_pairs bs)) 13 0 third.1));
    }

module _ (bs : List ℕ) (h : Header bs) where
  pub header-adding : Adding (setting_in bs) fresh_sum (declared_pairs bs)
  header-adding = record { coherent = fresh-coherent (setting_in bs) h.accepted; added = omega arith; most = h.few }

  -- all that is declared is to come
  pub header-room : room (setting_in bs) fresh_sum (declared_pairs bs) ≡ declared_bytes bs
  header-room = rw (sub-zero (declared_pairs bs)) (mul_comm (pair_bytes (setting_in bs).k) (declared_pairs bs) ∙ omega (arith, div-add-mod' (declared_bytes bs) (pair_bytes (setting_in bs).k), h.whole))

-- ---- later bytes

module _ (bs ys : List ℕ) (h : header_bytes ≤ length bs) where
  same : (i w : ℕ) → i + w ≤ header_bytes → number_at (bs ++ ys) i w ≡ number_at bs i w
  same i w l = number_at-same (bs ++ ys) bs i i w (λ r lr. get_or-append bs ys 0 (i + r) (omega arith))

  pub length-same : length_in (bs ++ ys) ≡ length_in bs
  length-same = same 0 4 (omega arith)

  pub setting_same : setting_in (bs ++ ys) ≡ setting_in bs
  setting_same =
      ap (λ (p : ℕ). made p (number_at (bs ++ ys) 9 1) (number_at (bs ++ ys) 10 1) (number_at (bs ++ ys) 11 4)) (same 5 4 (omega arith))
      ∙ ap (λ (k : ℕ). made (number_at bs 5 4) k (number_at (bs ++ ys) 10 1) (number_at (bs ++ ys) 11 4)) (same 9 1 (omega arith))
      ∙ ap (λ (t : ℕ). made (number_at bs 5 4) (number_at bs 9 1) t (number_at (bs ++ ys) 11 4)) (same 10 1 (omega arith))
      ∙ ap (made (number_at bs 5 4) (number_at bs 9 1) (number_at bs 10 1)) (same 11 4 (omega arith))
    where
      made : ℕ → ℕ → ℕ → ℕ → Setting
      made p k t n = record { p = p; k = k; t = t; n = n }

  pub declared_same : declared_pairs (bs ++ ys) ≡ declared_pairs bs
  declared_same = ap (λ (n : ℕ). (n - 11) / pair_bytes (setting_in (bs ++ ys)).k) length-same ∙ ap (λ (s : Setting). declared_bytes bs / pair_bytes s.k) setting_same

  pub header-same : header_checks (bs ++ ys) ≡ header_checks bs
  unfolding header_checks
  header-same =
      ap (checks (ltb (length (bs ++ ys)) header_bytes) (version_in (bs ++ ys)) (length_in (bs ++ ys))) setting_same
      ∙ ap (λ (n : ℕ). checks (ltb (length (bs ++ ys)) header_bytes) (version_in (bs ++ ys)) n (setting_in bs)) length-same
      ∙ ap (λ (v : ℕ). checks (ltb (length (bs ++ ys)) header_bytes) v (length_in bs) (setting_in bs)) (same 4 1 (omega arith))
      ∙ ap (λ (b : Bool). checks b (version_in bs) (length_in bs) (setting_in bs)) short
    where
      checks : Bool → ℕ → ℕ → Setting → Verdict
      checks b v n s =
          refuse (b || (not (eqb v 1) || ltb n 11)) 17 0
          and_then setting_checks s
          and_then refuse (not (eqb ((n - 11) % pair_bytes s.k) 0)) 17 0
          and_then refuse (record_full_cause 0 ((n - 11) / pair_bytes s.k)) 13 0

      short : ltb (length (bs ++ ys)) header_bytes ≡ ltb (length bs) header_bytes
      short = le-ltb (length (bs ++ ys)) header_bytes (omega (arith, length-append bs ys)) ∙ sym (le-ltb (length bs) header_bytes h)

pub header-opened : (header rest : List ℕ) → length header ≡ header_bytes
    → header_after (header ++ rest) ≡ settling (header_checks header) (pairs_after (setting_in header) fresh_sum (declared_pairs header) rest)
unfolding header_after
header-opened header rest all =
    let h : header_bytes ≤ length header = omega arith in
    rw (
      le-ltb (length (header ++ rest)) header_bytes (omega (arith, length-append header rest)),
      header-same header rest h,
      setting_same header rest h,
      declared_same header rest h,
      drop_at header rest header_bytes all,
    )
