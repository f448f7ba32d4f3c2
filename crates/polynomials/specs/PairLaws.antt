-- Laws of lists of pairs. Assumes nothing.
--     length-pairs-of              how many pairs two flat lists hold
--     pairs-of-operands            lists below p hold pairs of operands
--     pairs-join, pairs-parts      pairs of operands, joined and parted
--     pairs-same, pairs-more       the same pairs, given otherwise; some pairs and then more
--     inside-first, inside-second  the blocks of joined lists, where the first fills whole blocks
--     flat-join                    the pairs of flat lists joined are those of the first lists, then those of the second
--     coefficient-sums             a sum of products joined is the sum of both, in every coefficient
--     words-join                   and as packed numbers
--     sums-order, length-order     order matters neither to a sum of products nor to how many there are
--     remainder-next, remainder-full
--                                  one more, modulo n: the open batch grows, or it is full
--     inside, batches, open-few    the pairs in full batches are among the pairs; these and the rest are all; the rest are fewer than n
--     batch-open, batch-filled     a pair more, in the open batch: it stays open, or it is full and there is none
use Rattle.std.specs.Prelude.{ℕ, zero, suc, ◌+◌, ◌-◌, ◌*◌, ◌/◌, ◌%◌, ◌≤◌, ◌<◌, ◌≡◌, refl, length}
use Rattle.std.proofs.Common.{sym, ap, ◌∙◌, mul-le-mul_right, suc-mul, mod-eq_of_lt, div-add-mod', mul-div_cancel, zero-add, suc-add, add_comm, add-mul, arith, length-append, length-drop, take-append-drop}
use Rattle.std.proofs.Math.Logic.{∥∥₁_elim}
use mathlib.Core.HLevel.{hedberg}
use mathlib.Core.List.{List, [], ◌∷◌, ◌++◌, Perm, Permᴰ}
use Rattle.std.proofs.Math.Nat.{mod-add-mod, mod_self, div-eq_of_lt-le, add-mul-div_right}
use Rattle.std.proofs.Math.Decide.{ℕ_discrete}
use Rattle.std.proofs.Math.ListN.{get_or-append}
use Rattle.std.proofs.lemmas.List.{take-append-le, drop-append-le}
use Rattle.std.proofs.Math.Seq.{drop-length, take-length}
use Rattle.polynomials.specs.Lists.{coefficient, product, Below, Pair, Pairs, sum_of_products}
use Rattle.polynomials.specs.Places.{sum_of_words}
use Rattle.polynomials.specs.Blocks.{block, pairs_upto}
use Rattle.polynomials.specs.Pairs.{pairs_of, in_batches, full_batches, open_batch}
use Rattle.polynomials.specs.IndexLaws.{upto-same}
use Rattle.polynomials.specs.ListLaws.{coefficient-sum, coefficient-after}
use Rattle.polynomials.specs.BlockLaws.{block-operand, length_pairs, pairs-operands}

pub length-pairs-of : (k : ℕ) (xs ys : List ℕ) → length (pairs_of k xs ys) ≡ length xs / k
length-pairs-of k xs ys = length_pairs (length xs / k) (block k xs) (block k ys)

pub pairs-of-operands : (p k : ℕ) (xs ys : List ℕ) → Below p xs → Below p ys → Pairs p k (pairs_of k xs ys)
pairs-of-operands p k xs ys hx hy =
    pairs-operands p k (length xs / k) (block k xs) (block k ys) (λ r. block-operand p k xs r hx) (λ r. block-operand p k ys r hy)

pub pairs-join : (p k : ℕ) (cs ds : List Pair) → Pairs p k cs → Pairs p k ds → Pairs p k (cs ++ ds)
pairs-join p k [] ds hc hd = hd
pairs-join p k (c ∷ cs) ds hc hd = (hc.0, hc.1, pairs-join p k cs ds hc.2 hd)

pub pairs-parts : (p k : ℕ) (cs ds : List Pair) → Pairs p k (cs ++ ds) → Pairs p k cs × Pairs p k ds
pairs-parts p k [] ds h = (tt, h)
pairs-parts p k (c ∷ cs) ds h =
    let rest = pairs-parts p k cs ds h.2 in
    ((h.0, h.1, rest.0), rest.1)

-- ---- flat lists

pub pairs-same : (m : ℕ) (f f2 g g2 : ℕ → List ℕ) → ((r : ℕ) → r < m → f r ≡ f2 r) → ((r : ℕ) → r < m → g r ≡ g2 r) → pairs_upto m f g ≡ pairs_upto m f2 g2
pairs-same zero f f2 g g2 hf hg = refl
pairs-same (suc m) f f2 g g2 hf hg =
    let rest : pairs_upto m (λ r. f (suc r)) (λ r. g (suc r)) ≡ pairs_upto m (λ r. f2 (suc r)) (λ r. g2 (suc r)) = pairs-same m (λ r. f (suc r)) (λ r. f2 (suc r)) (λ r. g (suc r)) (λ r. g2 (suc r)) (λ r h. hf (suc r) (omega arith)) (λ r h. hg (suc r) (omega arith)) in
    rw (hf 0 (omega arith), hg 0 (omega arith), rest)

pub pairs-more : (m n : ℕ) (f g : ℕ → List ℕ) → pairs_upto (m + n) f g ≡ pairs_upto m f g ++ pairs_upto n (λ r. f (m + r)) (λ r. g (m + r))
pairs-more zero n f g = rw (zero-add n) (pairs-same n f (λ r. f (0 + r)) g (λ r. g (0 + r)) (λ r h. rw (zero-add r)) (λ r h. rw (zero-add r)))
pairs-more (suc m) n f g =
    let rest : pairs_upto n (λ r. f (suc (m + r))) (λ r. g (suc (m + r))) ≡ pairs_upto n (λ r. f (suc m + r)) (λ r. g (suc m + r)) = pairs-same n (λ r. f (suc (m + r))) (λ r. f (suc m + r)) (λ r. g (suc (m + r))) (λ r. g (suc m + r)) (λ r h. rw (suc-add m r)) (λ r h. rw (suc-add m r)) in
    rw (suc-add m n, pairs-more m n (λ r. f (suc r)) (λ r. g (suc r)), rest)

-- a block of joined lists, where the first fills m blocks
module _ (k m : ℕ) (xs us : List ℕ) (h : length xs ≡ m * k) where
  pub inside-first : (r : ℕ) → r < m → block k (xs ++ us) r ≡ block k xs r
  inside-first r l = upto-same k (λ j. coefficient (xs ++ us) (r * k + j)) (λ j. coefficient xs (r * k + j)) (λ j lj. get_or-append xs us 0 (r * k + j) (omega (arith, mul-le-mul_right {m = suc r} {n = m} k l, suc-mul r k)))

  pub inside-second : (r : ℕ) → block k (xs ++ us) (m + r) ≡ block k us r
  inside-second r = upto-same k (λ j. coefficient (xs ++ us) ((m + r) * k + j)) (λ j. coefficient us (r * k + j)) (λ j lj. at j)
    where
      at : (j : ℕ) → coefficient (xs ++ us) ((m + r) * k + j) ≡ coefficient us (r * k + j)
      at j =
          let e : (m + r) * k + j - length xs ≡ r * k + j = omega (arith, add-mul m r k) in
          coefficient-after xs us ((m + r) * k + j) (omega (arith, add-mul m r k)) ∙ rw e

pub flat-join : (k m : ℕ) (xs ys us vs : List ℕ) → 0 < k → length xs ≡ m * k → length ys ≡ m * k → pairs_of k (xs ++ us) (ys ++ vs) ≡ pairs_of k xs ys ++ pairs_of k us vs
flat-join k m xs ys us vs hk hx hy =
    let first : length xs / k ≡ m = rw hx (mul-div_cancel m hk) in
    let all : length (xs ++ us) / k ≡ m + length us / k = rw (length-append xs us, hx, add_comm (m * k) (length us), add-mul-div_right (length us) m hk, add_comm (length us / k) m) in
    let front : pairs_upto m (block k (xs ++ us)) (block k (ys ++ vs)) ≡ pairs_upto m (block k xs) (block k ys) = pairs-same m (block k (xs ++ us)) (block k xs) (block k (ys ++ vs)) (block k ys) (inside-first k m xs us hx) (inside-first k m ys vs hy) in
    let back : pairs_upto (length us / k) (λ r. block k (xs ++ us) (m + r)) (λ r. block k (ys ++ vs) (m + r)) ≡ pairs_of k us vs = pairs-same (length us / k) (λ r. block k (xs ++ us) (m + r)) (block k us) (λ r. block k (ys ++ vs) (m + r)) (block k vs) (λ r l. inside-second k m xs us hx r) (λ r l. inside-second k m ys vs hy r) in
    rw (all, first) (pairs-more m (length us / k) (block k (xs ++ us)) (block k (ys ++ vs)) ∙ rw (front, back))

-- ---- sums

pub coefficient-sums : (cs ds : List Pair) (j : ℕ) → coefficient (sum_of_products (cs ++ ds)) j ≡ coefficient (sum_of_products cs) j + coefficient (sum_of_products ds) j
coefficient-sums [] ds j = sym (zero-add (coefficient (sum_of_products ds) j))
coefficient-sums (c ∷ cs) ds j =
    rw (coefficient-sum (product c.left c.right) (sum_of_products (cs ++ ds)) j, coefficient-sum (product c.left c.right) (sum_of_products cs) j, coefficient-sums cs ds j) (omega arith)

pub words-join : (q : ℕ) (cs ds : List Pair) → sum_of_words q (cs ++ ds) ≡ sum_of_words q cs + sum_of_words q ds
words-join q [] ds = sym (zero-add (sum_of_words q ds))
words-join q (c ∷ cs) ds = rw (words-join q cs ds) (omega arith)

order-derived : {cs ds : List Pair} → Permᴰ cs ds → (j : ℕ) → coefficient (sum_of_products cs) j ≡ coefficient (sum_of_products ds) j
order-derived Permᴰ.nil j = refl
order-derived (Permᴰ.cons {a = a} {b = b} {l₁ = l₁} {l₂ = l₂} e d) j =
    rw (coefficient-sum (product a.left a.right) (sum_of_products l₁) j, coefficient-sum (product b.left b.right) (sum_of_products l₂) j, e, order-derived d j)
order-derived (Permᴰ.swap {a = a} {b = b} {a' = a2} {b' = b2} {l = l} e f) j =
    rw (coefficient-sum (product a.left a.right) (sum_of_products (b ∷ l)) j, coefficient-sum (product b.left b.right) (sum_of_products l) j, coefficient-sum (product a2.left a2.right) (sum_of_products (b2 ∷ l)) j, coefficient-sum (product b2.left b2.right) (sum_of_products l) j, e, f)
    (omega arith)
order-derived (Permᴰ.trans d e) j = order-derived d j ∙ order-derived e j

pub sums-order : (cs ds : List Pair) → Perm cs ds → (j : ℕ) → coefficient (sum_of_products cs) j ≡ coefficient (sum_of_products ds) j
sums-order cs ds h j = ∥∥₁_elim h (hedberg ℕ_discrete (coefficient (sum_of_products cs) j) (coefficient (sum_of_products ds) j)) (λ d. order-derived d j)

length-derived : {cs ds : List Pair} → Permᴰ cs ds → length cs ≡ length ds
length-derived Permᴰ.nil = refl
length-derived (Permᴰ.cons e d) = ap suc (length-derived d)
length-derived (Permᴰ.swap e f) = refl
length-derived (Permᴰ.trans d e) = length-derived d ∙ length-derived e

pub length-order : (cs ds : List Pair) → Perm cs ds → length cs ≡ length ds
length-order cs ds h = ∥∥₁_elim h (hedberg ℕ_discrete (length cs) (length ds)) length-derived

-- ---- batches

module _ (m n : ℕ) (hn : 0 < n) where
  pub remainder-next : m % n + 1 < n → (m + 1) % n ≡ m % n + 1
  remainder-next h = sym (mod-add-mod m n 1) ∙ mod-eq_of_lt h

  pub remainder-full : m % n + 1 ≡ n → (m + 1) % n ≡ 0
  remainder-full h = sym (mod-add-mod m n 1) ∙ rw h (mod_self n)

  quotient-next : m % n + 1 < n → (m + 1) / n * n ≡ m / n * n
  quotient-next h =
      let e : (m + 1) / n ≡ m / n = div-eq_of_lt-le n (omega (arith, div-add-mod' m n)) (omega (arith, div-add-mod' m n)) in
      rw e

  quotient-full : m % n + 1 ≡ n → (m + 1) / n * n ≡ m + 1
  quotient-full h = omega (arith, div-add-mod' (m + 1) n, remainder-full h)

module _ {A : Type 0} (n : ℕ) (hn : 0 < n) (cs : List A) where
  pub inside : in_batches n cs ≤ length cs
  inside = omega (arith, div-add-mod' (length cs) n)

  pub batches : full_batches n cs ++ open_batch n cs ≡ cs
  batches = take-append-drop (in_batches n cs) cs

  pub open-few : length (open_batch n cs) ≡ length cs % n
  open-few = length-drop (in_batches n cs) cs ∙ omega (arith, div-add-mod' (length cs) n)

  module _ (c : A) where
    one_more : length (cs ++ (c ∷ [])) ≡ length cs + 1
    one_more = length-append cs (c ∷ [])

    pub batch-open : length cs % n + 1 < n → (full_batches n (cs ++ (c ∷ [])) ≡ full_batches n cs) × (open_batch n (cs ++ (c ∷ [])) ≡ open_batch n cs ++ (c ∷ []))
    batch-open h =
        let same : in_batches n (cs ++ (c ∷ [])) ≡ in_batches n cs = rw one_more (quotient-next (length cs) n hn h) in
        (rw same (take-append-le (in_batches n cs) cs (c ∷ []) inside), rw same (drop-append-le (in_batches n cs) cs (c ∷ []) inside))

    pub batch-filled : length cs % n + 1 ≡ n → (full_batches n (cs ++ (c ∷ [])) ≡ cs ++ (c ∷ [])) × (open_batch n (cs ++ (c ∷ [])) ≡ [])
    batch-filled h =
        let all : in_batches n (cs ++ (c ∷ [])) ≡ length (cs ++ (c ∷ [])) = rw one_more (quotient-full (length cs) n hn h) in
        (rw all (take-length (cs ++ (c ∷ []))), rw all (drop-length (cs ++ (c ∷ []))))
