-- Which tunes are there twice.
use Rattle.std.specs.Prelude.{ℕ, ℤ, List, [], ◌∷◌, ◌++◌, Bool, false, ◌&&◌, Option, None, Some}
use Rattle.std.specs.Prelude.{option_map}
use Rattle.std.specs.Cmp.Lexicographic.{pointwise}
use Rattle.std.specs.List.{find}
use Rattle.std.specs.Ordering.{int_eq}
use Rattle.std.specs.Str.{bytes_eq}
use Rattle.tune_incipit.specs.Incipits.{incipit_of, tune_notes}
use Rattle.tune_store.specs.Questions.{row_of}
use Rattle.tune_store.specs.declared.index_rows.IndexRow.{IndexRow}
use Rattle.tune_store.specs.declared.tune.Tune.{Tune}
use Rattle.desk_lists.specs.Folding.{folded_title}
use Rattle.desk_lists.specs.declared.twins.Alike.{Alike}
use Rattle.desk_lists.specs.declared.twins.Alike.TheVariants.{Text, Opening}
use Rattle.desk_lists.specs.declared.twins.TwinRow.{TwinRow}

-- HOW A TUNE BEGINS
pub record TitledOpening : Type 0 where
  -- the steps between its first twelve notes that count, or between all where it has fewer
  pub steps : List ℤ
  -- its first title as an index shows it, without accents and capitals
  pub title : List ℕ

-- of a tune with one step at least, and with a title
abbrev pub titled_opening : List ℤ → Option (List ℕ) → Option TitledOpening
titled_opening [] title = None
titled_opening (step ∷ steps) None = None
titled_opening (step ∷ steps) (Some title) =
    Some (record { steps = step ∷ steps; title = folded_title title })

-- that of a tune, if it has one
abbrev pub opening_of : Tune → Option TitledOpening
opening_of tune = titled_opening (incipit_of 12 (tune_notes tune.text)) (row_of tune).title

-- WHICH TUNES ARE ALIKE
-- the same text, byte for byte
abbrev pub same_text : Tune → Tune → Bool
same_text tune other = bytes_eq tune.text other.text

-- both openings are there, and they have the same steps and the same title
abbrev pub are_same : Option TitledOpening → Option TitledOpening → Bool
are_same None other = false
are_same (Some opening) None = false
are_same (Some opening) (Some other) =
    pointwise int_eq opening.steps other.steps && bytes_eq opening.title other.title

-- of two tunes
abbrev pub same_opening : Tune → Tune → Bool
same_opening tune other = are_same (opening_of tune) (opening_of other)

-- TWINS
-- the number of the first of these tunes that passes
abbrev pub first_number : (Tune → Bool) → List Tune → Option ℕ
first_number passes tunes = option_map (λ tune. tune.number) (find passes tunes)

-- the number and the title of a tune, under its twin
abbrev pub twin_row : IndexRow → ℕ → Alike → TwinRow
twin_row row twin alike =
    record { number = row.number; twin = twin; alike = alike; title = row.title }

-- under the tune of the same text, or else under that of the same opening, or in no row
abbrev pub rows_under : IndexRow → Option ℕ → Option ℕ → List TwinRow
rows_under row None None = []
rows_under row None (Some twin) = twin_row row twin Opening ∷ []
rows_under row (Some twin) by_opening = twin_row row twin Text ∷ []

-- a tune under the first of these that is its twin
abbrev pub rows_behind : List Tune → Tune → List TwinRow
rows_behind before tune = rows_under (row_of tune)
    (first_number (same_text tune) before) (first_number (same_opening tune) before)

-- tunes one after another, each with all before it
abbrev pub twins_behind : List Tune → List Tune → List TwinRow
twins_behind before [] = []
twins_behind before (tune ∷ tunes) =
    rows_behind before tune ++ twins_behind (before ++ tune ∷ []) tunes

-- the tunes that are there twice
abbrev pub twins : List Tune → List TwinRow
twins tunes = twins_behind [] tunes
