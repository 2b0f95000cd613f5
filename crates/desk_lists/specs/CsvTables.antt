-- Lists in CSV: the fields of each row.
use Rattle.std.specs.Prelude.{ℕ, ◌+◌, List, [], ◌∷◌, ◌++◌, codes, Option, None, Some}
use Rattle.std.specs.Fmt.{decimal}
use Rattle.csv.specs.Writing.{default_writer, row_text}
use Rattle.tune_sets.specs.declared.set_rows.SetRow.{SetRow}
use Rattle.tune_store.specs.declared.index_rows.IndexRow.{IndexRow}

-- a record, with commas between its fields, quotes where a field needs them, and a line feed
abbrev pub record_bytes : List (List ℕ) → List ℕ
record_bytes fields = row_text default_writer fields

-- TUNES
-- nothing where there is no title
abbrev pub title_field : Option (List ℕ) → List ℕ
title_field None = []
title_field (Some title) = title

abbrev pub tune_fields : IndexRow → List (List ℕ)
tune_fields row = decimal row.number ∷ title_field row.title ∷ []

abbrev pub tune_records : List IndexRow → List ℕ
tune_records [] = []
tune_records (row ∷ rows) = record_bytes (tune_fields row) ++ tune_records rows

abbrev pub tune_table : List IndexRow → List ℕ
tune_table rows = record_bytes (codes "number" ∷ codes "title" ∷ []) ++ tune_records rows

-- the same with the place of each first, from this one on
abbrev pub place_records : ℕ → List IndexRow → List ℕ
place_records place [] = []
place_records place (row ∷ rows) =
    record_bytes (decimal place ∷ tune_fields row) ++ place_records (place + 1) rows

abbrev pub place_table : List IndexRow → List ℕ
place_table rows =
    record_bytes (codes "place" ∷ codes "number" ∷ codes "title" ∷ []) ++ place_records 1 rows

-- SET LISTS
abbrev pub set_fields : SetRow → List (List ℕ)
set_fields row = row.name ∷ decimal row.places ∷ []

abbrev pub set_records : List SetRow → List ℕ
set_records [] = []
set_records (row ∷ rows) = record_bytes (set_fields row) ++ set_records rows

abbrev pub set_table : List SetRow → List ℕ
set_table rows = record_bytes (codes "name" ∷ codes "places" ∷ []) ++ set_records rows
