-- Inputs of the tables, and what is printed of them. Definitions, and one law.
--     passes, given            nothing is refused; this number, with place 0
--     small                    p=3, k=2, t=4, n=1: words of 12 bits
--     held                     a record of p=3, k=2, t=5, n=2; zeros, residues for it
--     table_bytes               the table of p=3, t=4 with another last byte; 0 is the table's own
--     header                   the header of a job with p=2, k=1, t=1, n=1 and this length
--     long                     a list of so many, whose first coefficient is p
--     lane, lane-held          the record that make makes of the small setting, and that it is not 12
use Rattle.std.specs.Prelude.{ℕ, ◌-◌, ◌≡◌, refl, false, List, [], ◌∷◌, ◌++◌, replicate}
use Rattle.layout.specs.Numbers.{big_endian}
use Rattle.settings.specs.Settings.{setting_checks, setting_of}
use Rattle.packed.specs.Running.{record_of}
use Rattle.lane.specs.Lanes.{make_checks, lane_of, held_cause}
use Rattle.lane.specs.Answering.{made_held}
use Rattle.settings.specs.declared.setting.Setting.{Setting}
use Rattle.packed.specs.declared.running.Record.{Record}
use Rattle.lane.specs.declared.Lane.{Lane}

unfoldable pub passes : List ℕ
passes = 0 ∷ 0 ∷ []

unfoldable pub given : ℕ → List ℕ
given number = number ∷ 0 ∷ []

-- p = 3, k = 2, t = 4, n = 1
abbrev pub small : Setting
small = setting_of 3 2 4 1

-- p = 3, k = 2, t = 5, n = 2
unfoldable pub held : ℕ → ℕ → List ℕ → Record
held total word residues = record_of (setting_of 3 2 5 2) (record { total = total; word = word; residues = residues })

unfoldable pub zeros : List ℕ
zeros = replicate 15 0

unfoldable pub table_bytes : ℕ → List ℕ
table_bytes last = 0 ∷ 0 ∷ 0 ∷ 13 ∷ 1 ∷ 0 ∷ 3 ∷ 4 ∷ 0 ∷ 1 ∷ 2 ∷ 2 ∷ 0 ∷ 1 ∷ 1 ∷ 2 ∷ last ∷ []

-- p = 2, k = 1, t = 1, n = 1, and a length
unfoldable pub header : ℕ → List ℕ
header len = big_endian 4 len ++ (1 ∷ 0 ∷ 0 ∷ 0 ∷ 2 ∷ 1 ∷ 1 ∷ 0 ∷ 0 ∷ 0 ∷ 1 ∷ [])

-- the first coefficient is p: that 8 is given with place 0 shows that the check before it was passed
unfoldable pub long : ℕ → ℕ → List ℕ
long p len = p ∷ replicate (len - 1) 0

abbrev pub lane : Lane
lane = lane_of small

pub lane-held : held_cause lane ≡ false
unfolding make_checks setting_checks
lane-held = made_held small lane refl
