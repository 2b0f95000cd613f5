-- The limits of set lists (this archive's profile).
use Rattle.std.specs.Prelude.{ℕ}

-- how many bytes the name of a set has at most
abbrev pub longest_name : ℕ
longest_name = 40

-- how many places a set has at most
abbrev pub most_places : ℕ
most_places = 200

-- how many sets there are at most
abbrev pub most_sets : ℕ
most_sets = 500
