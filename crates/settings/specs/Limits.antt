-- The limits of document 01. Each stands here once, as it stands once in src/limits.rt.
-- Coefficients and residues are 16-bit unsigned, u16 in the code; words and fields are 64-bit unsigned, u64.
use Rattle.std.specs.Prelude.{ℕ}

abbrev pub largest_modulus : ℕ
largest_modulus = 65536

abbrev pub most_coefficients : ℕ
most_coefficients = 8

abbrev pub largest_batch : ℕ
largest_batch = 1048576

abbrev pub widest : ℕ
widest = 63

abbrev pub word_bits : ℕ
word_bits = 64

abbrev pub largest_table_modulus : ℕ
largest_table_modulus = 127

abbrev pub longest_factor : ℕ
longest_factor = 4096

abbrev pub most_pairs : ℕ
most_pairs = 1000000

-- 2k-1 for the largest k
abbrev pub residue_places : ℕ
residue_places = 15
