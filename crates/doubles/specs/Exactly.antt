-- Whole numbers below 2^53 in doubles: nothing is lost, and their sums, products and differences are exact while they stay below. Assumes nothing.
--     held                      every whole number below 2^53 is held by its double
--     held-value                the number that a double which holds n stands for is n
--     held_number, held-exact   cut to a whole number it is n again
--     held_whole, whole-held    to hold a whole number, and to pass the test for one
--     may-hold                  what the cast of n to a double asks
--     plus-held, times-held, less-held
--                               the sum, the product and the difference of two of them
--     held_below                they are in order as doubles exactly where they are as numbers
--     zero_is, one-is           0.0 and 1.0, by their bits
use Rattle.std.specs.Prelude.{ℕ, ◌+◌, ◌-◌, ◌*◌, ◌≤◌, ◌<◌, ◌≡◌, refl, true, false, pos, T, ltb, Float}
use Rattle.std.proofs.Common.{sym, le_of_lt, zero-lt-suc, arith, le→leb}
use Rattle.std.specs.Float.{binary64}
use Rattle.std.specs.Float.Ieee.{add, sub, mul, lt, of_int, of_bits, in_float, in_unsigned, fits}
use Rattle.std.specs.Float.Ieee.Back.{round_whole, unsigned_back, Float-back_unsigned}
use Rattle.std.specs.Float.Ieee.Bits.{is_true}
use Rattle.std.specs.Float.Ieee.Exact.{HasValue}
use Rattle.doubles.specs.Whole.{exact_below, double, whole_part, is_whole, Held, Exact}
use Rattle.doubles.specs.Rounded.{mul-round, add-round, sub-round, lt-values}

pub held : (n : ℕ) → n < exact_below → Held (double n) n
held n h = record { is = refl; below = h }

pub held-value : {x : Float} {n : ℕ} → Held x n → HasValue x false n 1
unfolding of_int
held-value {x} {n} h = rw h.is (round_whole binary64 false n (le_of_lt h.below))

pub may-hold : (n : ℕ) → n < exact_below → T (in_float binary64 (pos n))
unfolding in_float
may-hold n h = le→leb n exact_below (le_of_lt h)

-- as a double and back
back : {x : Float} {n : ℕ} → Held x n → T (in_unsigned binary64 64 x) × (whole_part x ≡ n)
back {x} {n} h = rw h.is (unsigned_back binary64 64 n (may-hold n h.below) (omega arith))

pub held_number : {x : Float} {n : ℕ} → Held x n → whole_part x ≡ n
held_number h = (back h).1

pub held-exact : {x : Float} {n : ℕ} → Held x n → Exact x
held-exact h = rw (held_number h) h

pub held_whole : {x : Float} {n : ℕ} → Held x n → is_whole x ≡ true
held_whole {x} h = is_true (is_whole x) (back h).0

pub whole-held : (x : Float) → T (fits binary64 x) → is_whole x ≡ true → whole_part x < exact_below → Exact x
whole-held x f w h = record { is = sym (Float-back_unsigned binary64 64 x f (rw w tt)).1; below = h }

pub plus-held : {x y : Float} {a b : ℕ} → Held x a → Held y b → a + b < exact_below → Held (add binary64 x y) (a + b)
unfolding of_int
plus-held {x} {y} {a} {b} h k l = record { is = add-round x y a b (held-value h) (held-value k) binary64; below = l }

pub times-held : {x y : Float} {a b : ℕ} → Held x a → Held y b → a * b < exact_below → Held (mul binary64 x y) (a * b)
unfolding of_int
times-held {x} {y} {a} {b} h k l =
    record { is = mul-round binary64 x y a 1 b 1 (zero-lt-suc 0) (zero-lt-suc 0) (held-value h) (held-value k); below = l }

pub less-held : {x y : Float} {a b : ℕ} → Held x a → Held y b → b ≤ a → Held (sub binary64 x y) (a - b)
unfolding of_int
less-held {x} {y} {a} {b} h k l = record { is = sub-round x y a b (held-value h) (held-value k) binary64 (a - b) (omega arith); below = omega arith }

pub held_below : {x y : Float} {a b : ℕ} → Held x a → Held y b → lt x y ≡ ltb a b
held_below {x} {y} {a} {b} h k = lt-values x y a b (held-value h) (held-value k)

pub zero_is : of_bits binary64 0 ≡ double 0
unfolding of_bits of_int
zero_is = refl

pub one-is : of_bits binary64 0x3ff0_0000_0000_0000 ≡ double 1
unfolding of_bits of_int
one-is = refl
