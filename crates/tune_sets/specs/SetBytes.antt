-- How set lists stand as bytes.
use Rattle.std.specs.Prelude.{ℕ, List, [], ◌∷◌, ◌++◌, length}
use Rattle.byteorder.specs.Endian.{big_bytes}
use Rattle.tune_sets.specs.declared.set_lists.TuneSet.{TuneSet}

-- numbers, four bytes each, the highest byte first
abbrev pub written_numbers : List ℕ → List ℕ
written_numbers [] = []
written_numbers (number ∷ numbers) = big_bytes 4 number ++ written_numbers numbers

-- a name: its length, in one byte, and its bytes
abbrev pub written_name : List ℕ → List ℕ
written_name name = length name ∷ name

-- a set: its name, how many places it has, in two bytes, and the numbers at them
abbrev pub stored_set : TuneSet → List ℕ
stored_set set =
    written_name set.name ++ (big_bytes 2 (length set.numbers) ++ written_numbers set.numbers)

-- sets, one after another
abbrev pub written_sets : List TuneSet → List ℕ
written_sets [] = []
written_sets (set ∷ sets) = stored_set set ++ written_sets sets
