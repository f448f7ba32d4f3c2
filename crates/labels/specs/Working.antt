-- What the workers of write and check ask of each other. Definitions only.
--     CheckRoom content out     out has a place for each of the check words
--     opposites xs              zero less each word, modulo 929
--     check_words m content      the check words: zero less the remainder, highest power first
--     CheckWork g content rest out
--                               and there is the generator, and a list of zeros to divide in
--     powers_of_three             the powers of 3 modulo 929, from 3^0 on, one whole round
--     times_root j g             g times (x - 3^j), modulo 929
--     Divisor g part            a divisor, and as many coefficients of what it divides
--     Dividing g a              a divisor, and what it divides
--     Polynomial a              the coefficients of a label's polynomial
--     power_at j i               power i of 3^j, modulo 929
use Rattle.std.specs.Prelude.{ℕ, ◌+◌, ◌*◌, ◌≤◌, ◌<◌, ◌≡◌, List, reverse, length, replicate}
use Rattle.polynomials.specs.Indices.{upto}
use Rattle.polynomials.specs.Lists.{product, residues, Below}
use Rattle.divisions.specs.Divisions.{degree, less, remainder}
use Rattle.divisions.specs.Values.{linear}
use Rattle.labels.specs.Labels.{modulus, most_words, most_checks, root, power, cycle, generator, carried}

pub record CheckRoom (content out : List ℕ) : Type 0 where
  pub below : Below modulus content
  pub places : length out ≤ most_checks
  pub few : length content + length out ≤ most_words

abbrev pub opposites : List ℕ → List ℕ
opposites xs = less modulus (replicate (length xs) 0) xs

unfoldable pub check_words : ℕ → List ℕ → List ℕ
check_words m content = reverse (opposites (remainder modulus (generator m) (carried m content)))

pub record CheckWork (g content rest out : List ℕ) : Type 0 where
  pub room : CheckRoom content out
  pub divisor : g ≡ generator (length out)
  pub zeros : rest ≡ replicate (length out + length content) 0

unfoldable pub powers_of_three : List ℕ
powers_of_three = upto cycle power

abbrev pub times_root : ℕ → List ℕ → List ℕ
times_root j g = residues modulus (product g (linear modulus (root j)))

pub record Divisor (g part : List ℕ) : Type 0 where
  pub some : 0 < length g
  pub few : length g ≤ most_checks + 1
  pub same_size : length part ≡ length g
  pub below : Below modulus g
  pub part_below : Below modulus part

pub record Dividing (g a : List ℕ) : Type 0 where
  pub some : 0 < length g
  pub few : length g ≤ most_checks + 1
  pub longer : degree g ≤ length a
  pub few_words : length a ≤ most_words
  pub below : Below modulus g
  pub part_below : Below modulus a

pub record Polynomial (a : List ℕ) : Type 0 where
  pub below : Below modulus a
  pub few : length a ≤ most_words

abbrev pub power_at : ℕ → ℕ → ℕ
power_at j i = power (j * i)
