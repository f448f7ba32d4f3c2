-- Doubles, IEEE 754's binary64 as the toolchain defines it, and the whole numbers among them. Definitions only.
--     exact_below        2^53: every whole number below it is a double
--     double n          the double of a whole number n; of zero it is +0
--     whole_part x       a double cut to a whole number: x itself, where x is one
--     is_whole x         x is a whole number from 0 up to 2^53; a NaN, an infinity, a fraction, a negative number and -0 are not
--     Held x n          x is the whole number n, held exactly
--     Exact x           it is some whole number, held exactly
--     inverse p         what the division 1.0 / p gives
--     cut_product x p    the rounded product of x with it, cut to a whole number
--     quotient_below     2^52: below it the cut product is the quotient x / p or one less, for a p up to largest_divisor
--     differs_in_bits x y x differs in some bit from y; a NaN differs from everything
use Rattle.std.specs.Prelude.{ℕ, ◌^◌, ◌<◌, ◌≡◌, Bool, not, ◌||◌, pos, eqb, Float}
use Rattle.std.specs.Float.{binary64}
use Rattle.std.specs.Float.Ieee.{mul, div, of_int, to_unsigned, in_unsigned, to_bits, is_nan}

abbrev pub exact_below : ℕ
exact_below = 2 ^ 53

abbrev pub double : ℕ → Float
double n = of_int binary64 (pos n)

abbrev pub whole_part : Float → ℕ
whole_part x = to_unsigned 64 x

abbrev pub is_whole : Float → Bool
is_whole x = in_unsigned binary64 64 x

pub record Held (x : Float) (n : ℕ) : Type 0 where
  pub is : x ≡ double n
  pub below : n < exact_below

abbrev pub Exact : Float → Type 0
Exact x = Held x (whole_part x)

abbrev pub inverse : ℕ → Float
inverse p = div binary64 (double 1) (double p)

abbrev pub cut_product : ℕ → ℕ → ℕ
cut_product x p = whole_part (mul binary64 (double x) (inverse p))

abbrev pub quotient_below : ℕ
quotient_below = 2 ^ 52

abbrev pub largest_divisor : ℕ
largest_divisor = 65536

abbrev pub differs_in_bits : Float → Float → Bool
differs_in_bits x y = is_nan x || not (eqb (to_bits binary64 x) (to_bits binary64 y))
