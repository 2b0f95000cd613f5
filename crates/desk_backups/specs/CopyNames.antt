-- The names of copies, and what stands beside each.
use Rattle.std.specs.Prelude.{ℕ, zero, suc, List, [], ◌++◌, codes, decimal, Option, Some, None}
use Rattle.std.specs.Prelude.{false}
use Rattle.std.specs.Path.{path_file_name}
use Rattle.hex.specs.Hex.{encode_lower}
use Rattle.desk_copies.specs.SumFiles.{sum_path}
use Rattle.tune_desk.specs.Results.{Places, result_places}

-- COPY of a number: COPY itself, or COPY, a dot and the number
abbrev pub numbered_copy : List ℕ → ℕ → List ℕ
numbered_copy copy zero = copy
numbered_copy copy (suc before) = copy ++ (codes "." ++ decimal (suc before))

-- the name of a file: the last part of its path
abbrev pub name_or_none : Option (List ℕ) → List ℕ
name_or_none None = []
name_or_none (Some name) = name

abbrev pub name_of_path : List ℕ → List ℕ
name_of_path path = name_or_none (path_file_name path)

-- what `sha256sum -c` reads of a file: the 64 digits of its sum, two blanks, its name
abbrev pub sum_line : List ℕ → List ℕ → List ℕ
sum_line sum path = encode_lower sum ++ (codes "  " ++ (name_of_path path ++ codes "\n"))

-- the files of a copy, and of its sum: nothing is written over
abbrev pub copy_places : List ℕ → List ℕ → Places
copy_places file path = result_places file (Some path) false

abbrev pub sum_places : List ℕ → List ℕ → Places
sum_places file path = copy_places file (sum_path path)
