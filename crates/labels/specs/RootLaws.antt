-- Laws of the powers of 3 modulo 929, and of a polynomial's value at one of them. Assumes nothing.
--     lent-room, lent-filled  the first n of a list are lent and filled: there are as many still, and they are what they were filled with
--     table_at, table-size, table_below
--                             the table of powers: its entries, how many they are, and that they are below 929
--     table_is                a list of 928 numbers that passes the test of such a table is it
--     three-cycles            3^928 is 1 modulo 929
--     exponent-next           the exponent of the next power, kept below 928
--     exponent-power          a power of 3 by such an exponent is the power that is asked for
--     value-closed            what closing gives, of a fresh record that a polynomial and powers of 3^j were fed to: its value at 3^j
use Rattle.std.specs.Prelude.{ℕ, ◌+◌, ◌-◌, ◌*◌, ◌/◌, ◌%◌, ◌^◌, ◌≤◌, ◌<◌, ◌≡◌, refl, false, List, [], ◌∷◌, ◌++◌, T, length, take, drop, Result}
use Rattle.std.proofs.Common.{sym, ap, ◌∙◌, append-nil, lt_of_le_of_lt, mod-lt, mul_comm, add-zero, zero-mul, div-one, arith, length-take-le, take_at}
use Rattle.std.proofs.Math.Nat.{mod-mod, mod-one}
use Rattle.polynomials.specs.Indices.{upto, sum_to}
use Rattle.polynomials.specs.IndexLaws.{length-upto, upto-at, upto-most, sum_same}
use Rattle.polynomials.specs.Lists.{coefficient, Below, sum_of_products}
use Rattle.polynomials.specs.ListLaws.{lists_agree}
use Rattle.polynomials.specs.Places.{packed}
use Rattle.polynomials.specs.PlaceLaws.{packed-sum_of_products, power-power}
use Rattle.polynomials.specs.Blocks.{block}
use Rattle.polynomials.specs.BlockLaws.{words-of-pairs}
use Rattle.polynomials.specs.Pairs.{pairs_of}
use Rattle.divisions.specs.CongruenceLaws.{weights-congruent}
use Rattle.divisions.specs.ValueLaws.{packed-sum-of}
use Rattle.divisions.specs.Powers.{all_powers}
use Rattle.divisions.specs.PowerLaws.{powers-at, power-again}
use Rattle.settings.specs.Answers.{refuses}
use Rattle.packed.specs.Taken.{taken-below}
use Rattle.packed.specs.FedPairs.{PairsToFeed}
use Rattle.packed.specs.Running.{fresh_sum, record_of, Freshens, Feeds, Closes}
use Rattle.packed.specs.RunningChecks.{pairs-pass, feed-fine}
use Rattle.packed.specs.Calls.{Call}
use Rattle.packed.specs.DemandThree.{demand-3}
use Rattle.packed.specs.Joining.{fresh-coherent}
use Rattle.packed.specs.declared.running.Begun.{Begun}
use Rattle.packed.specs.declared.running.Fed.{Fed}
use Rattle.labels.specs.Labels.{modulus, most_checks, cycle, root, power, value_at}
use Rattle.labels.specs.Working.{powers_of_three, Polynomial, power_at}
use Rattle.labels.specs.WordLaws.{front_fits}
use Rattle.labels.specs.SettingLaws.{label_setting, label-setting-fine}
use Rattle.settings.specs.Refusals.{says}
use Rattle.settings.specs.declared.refusals.Refusal.{Refusal}

-- ---- the lent part of a list

module _ (n : ℕ) (f : ℕ → ℕ) (old now : List ℕ) (few : n ≤ length old) (made : now ≡ upto (length (take n old)) f) where
  made-size : length now ≡ n
  made-size = ap length made ∙ length-upto (length (take n old)) f ∙ length-take-le n old few

  pub lent-room : n ≤ length (now ++ drop n old)
  lent-room = front_fits now (drop n old) n made-size

  pub lent-filled : take n (now ++ drop n old) ≡ upto n f
  lent-filled = take_at now (drop n old) n made-size ∙ made ∙ rw (length-take-le n old few)

-- ---- the table

pub table_at : (e : ℕ) → e < cycle → coefficient powers_of_three e ≡ power e
unfolding powers_of_three
table_at e h = upto-at cycle power e h

pub table-size : length powers_of_three ≡ cycle
unfolding powers_of_three
table-size = length-upto cycle power

pub table_below : Below modulus powers_of_three
unfolding powers_of_three
table_below j = lt_of_le_of_lt (upto-most cycle power j) (mod-lt (root j) (omega arith))

pub table_is : (xs : List ℕ) → length xs ≡ cycle → T (all_powers modulus 3 xs) → xs ≡ powers_of_three
table_is xs size rule =
    lists_agree xs powers_of_three (size ∙ sym table-size) (λ j l. let inside : j < cycle = rw size at l in powers-at modulus 3 xs (omega arith) rule j l ∙ sym (table_at j inside))

-- ---- exponents

pub three-cycles : 3 ^ 928 % 929 ≡ 1
three-cycles = refl

pub exponent-next : (j i e : ℕ) → j ≤ most_checks → e ≡ j * i % cycle → (e + j < cycle → e + j ≡ j * (i + 1) % cycle) × (cycle ≤ e + j → e + j - cycle ≡ j * (i + 1) % cycle)
exponent-next j i e few h =
    let next : j * (i + 1) ≡ j * i + j = omega arith in
    (λ l. omega (arith, next), λ l. omega (arith, next))

pub exponent-power : (j i e : ℕ) → e < cycle → e ≡ j * i % cycle → coefficient powers_of_three e ≡ power_at j i
exponent-power j i e inside h = table_at e inside ∙ ap power h ∙ power-again modulus 3 cycle (j * i) (omega arith) three-cycles

-- ---- sums of products, one coefficient to a word

coefficient-first : (xs : List ℕ) → coefficient xs 0 ≡ packed 0 xs
coefficient-first [] = refl
coefficient-first (x ∷ xs) = omega (arith, zero-mul (packed 0 xs))

single-sum : (xs ys : List ℕ) → coefficient (sum_of_products (pairs_of 1 xs ys)) 0 ≡ sum_to (length xs) (λ r. coefficient ys r * coefficient xs r)
single-sum xs ys =
    let one : (zs : List ℕ) (r : ℕ) → packed 0 (block 1 zs r) ≡ coefficient zs r = λ zs r. let place : r * 1 + 0 ≡ r = omega arith in rw (place, add-zero) in
    coefficient-first (sum_of_products (pairs_of 1 xs ys))
    ∙ packed-sum_of_products 0 (pairs_of 1 xs ys)
    ∙ words-of-pairs 0 (length xs / 1) (block 1 xs) (block 1 ys)
    ∙ rw (div-one (length xs)) (sum_same (length xs) (λ r. packed 0 (block 1 xs r) * packed 0 (block 1 ys r)) (λ r. coefficient ys r * coefficient xs r) (λ r l. rw (one xs r, one ys r) (mul_comm (coefficient xs r) (coefficient ys r))))

-- ---- the value

module _ (a : List ℕ) (j : ℕ) where
  abbrev powers : List ℕ
  powers = upto (length a) (power_at j)

  powers-below : Below modulus powers
  powers-below i = lt_of_le_of_lt (upto-most (length a) (power_at j) i) (mod-lt (root (j * i)) (omega arith))

  powers-residue : (i : ℕ) → i < length a → coefficient powers i % modulus ≡ root j ^ i % modulus
  powers-residue i l = rw (upto-at (length a) (power_at j) i l, power-power 3 j i, mul_comm i j) (mod-mod (root (j * i)) modulus)

  sum-value : coefficient (sum_of_products (pairs_of 1 a powers)) 0 % modulus ≡ value_at a j
  sum-value =
      let turned : sum_to (length a) (λ i. root j ^ i * coefficient a i) ≡ sum_to (length a) (λ i. coefficient a i * root j ^ i) = sum_same (length a) (λ i. root j ^ i * coefficient a i) (λ i. coefficient a i * root j ^ i) (λ i l. mul_comm (root j ^ i) (coefficient a i)) in
      rw (single-sum a powers, packed-sum-of (root j) a, ← turned)
      (weights-congruent modulus (length a) (coefficient powers) (λ i. root j ^ i) (coefficient a) powers-residue)

  module _ (polynomial : Polynomial a) where
    feeding : PairsToFeed label_setting fresh_sum a powers
    feeding = record {
      coherent = fresh-coherent label_setting label-setting-fine;
      same_size = sym (length-upto (length a) (power_at j));
      whole = mod-one (length a);
      room = rw (div-one (length a)) (omega (arith, polynomial.few));
      left_below = polynomial.below;
      right_below = powers-below;
    }

    pub value-closed : (ps : List ℕ) (begun : Begun) (fed : Fed) (closed : Result ℕ Refusal) (after : List ℕ) → ps ≡ powers → Freshens label_setting begun → Feeds begun.running a ps fed
        → Closes fed.running (0 ∷ []) closed after → coefficient after 0 ≡ value_at a j
    value-closed ps begun fed closed after lent fresh feeds closes =
        let start = record_of label_setting fresh_sum in
        let fits : Feeds begun.running a powers fed = rw lent at feeds in
        let said = rw (fresh.1, feed-fine start a powers (pairs-pass start a powers feeding)) at fits.0 in
        let took : refuses (says fed.answer) ≡ false = rw said in
        let call : Call = record { left = a; right = powers; gave = fed } in
        let all = demand-3 label_setting label-setting-fine begun fresh (call ∷ []) fed.running (fits, took, refl) in
        let left = (all.closing (0 ∷ []) after closed closes).1 in
        ap (λ (l : List ℕ). coefficient l 0) left
        ∙ rw (append-nil a, append-nil powers, taken-below modulus a polynomial.below, taken-below modulus powers powers-below) sum-value
