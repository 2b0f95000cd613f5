-- What a change does to the rows, and so to the index of numbers.
use Rattle.std.specs.Prelude.{◌≡◌, ◌⊎◌, ℕ, ◌<◌, ◌≤◌, List, [], ◌∷◌, ◌++◌, length, slice_set, ⊤}
use Rattle.std.specs.List.{remove, range_with_len}
use Rattle.index_keys.specs.Entries.{Entry}
use Rattle.tune_format.specs.Written.{number_entries, row_entry}
use Rattle.tune_format.specs.declared.rows.Row.{Row}
use Rattle.tune_contents.specs.Inside.TuneRows.{numbers_of_rows}
use Rattle.tune_contents.specs.declared.next.RowChange.{RowChange}
use Rattle.tune_contents.specs.declared.next.RowChange.TheVariants.{Stay, Add, Put, Take, Move}
use Rattle.tune_contents.specs.declared.next.RowChange.TheVariants.{Whole}

-- A row of this number more, behind all; so many, with numbers one after another; and one in the
-- place of another.
abbrev pub AddsRow : ℕ → List Row → List Row → Type 0
AddsRow number was is = (row : Row) × (is ≡ was ++ row ∷ []) × (row.number ≡ number)

abbrev pub AddsRows : ℕ → ℕ → List Row → List Row → Type 0
AddsRows first count was is = (more : List Row) × (is ≡ was ++ more)
    × (numbers_of_rows more ≡ range_with_len first count)

abbrev pub PutsRow : ℕ → ℕ → List Row → List Row → Type 0
PutsRow place number was is = (row : Row) × (place < length was)
    × (is ≡ slice_set was place row) × (row.number ≡ number)

-- It is one of a row that is there, or none.
abbrev pub IsSingle : RowChange → List Row → Type 0
IsSingle Stay rows = ⊤
IsSingle (Add more) rows = ⊥
IsSingle (Put place row) rows = place < length rows
IsSingle (Take place) rows = place < length rows
IsSingle (Move place to row) rows = (place < length rows) × (to ≤ length (remove rows place))
IsSingle (Whole all) rows = ⊥

-- It puts these behind the others.
abbrev pub IsBehind : RowChange → List Row → List Row → Type 0
IsBehind (Add more) rows these = more.items ≡ these
IsBehind (Whole all) rows these = all.items ≡ rows ++ these
IsBehind change rows these = ⊥

-- It is one of a row that is there, or puts some behind the others that have numbers one after
-- another.
abbrev pub IsMadeOf : RowChange → List Row → Type 0
IsMadeOf (Add more) rows =
    (first : ℕ) × (count : ℕ) × (numbers_of_rows more.items ≡ range_with_len first count)
IsMadeOf (Whole all) rows = (first : ℕ) × (count : ℕ) × AddsRows first count rows all.items
IsMadeOf change rows = IsSingle change rows

-- what goes out of the index and what comes in with a row in the place of another
abbrev pub PutsRuns : Row → Row → List Entry → List Entry → Type 0
PutsRuns was is gone come =
    ((gone ≡ number_entries (was ∷ [])) × (come ≡ number_entries (is ∷ [])))
    ⊎ ((row_entry is ≡ row_entry was) × (gone ≡ []) × (come ≡ []))
