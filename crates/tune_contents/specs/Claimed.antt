-- What opening claims of an archive, and what is kept of it in memory.
use Rattle.std.specs.Prelude.{◌≡◌, ℕ, ◌<◌, ◌≤◌, List, [], ◌∷◌, Bool, true, length, ⊤}
use Rattle.std.specs.List.{AllByRecursion}
use Rattle.tune_search.specs.LoadedParts.{ClaimsParts}
use Rattle.tune_search.specs.IndexParts.{KeepsIndex}
use Rattle.tune_search.specs.SearchPages.{AreListed}
use Rattle.tune_search.specs.Searches.{key_bytes}
use Rattle.tune_store.specs.Limits.{most_tunes, greatest_number, notes_of}
use Rattle.tune_store.specs.State.{IsState}
use Rattle.tune_store.specs.declared.layout.Layout.{Layout}
use Rattle.tune_store.specs.declared.tune.Tune.{Tune}
use Rattle.tune_format.specs.Filed.{Filed, archive_parts, firsts_of, numbered_texts}
use Rattle.tune_format.specs.Filed.{rows_of_tunes}
use Rattle.tune_format.specs.Written.{number_entries}
use Rattle.tune_format.specs.declared.rows.Row.{Row}
use Rattle.tune_contents.specs.Holds.{KeepsTexts}
use Rattle.tune_contents.specs.declared.contents.Contents.{Contents}

-- numbers rise strictly, and are above this one
abbrev pub RowsRise : ℕ → List Row → Type 0
RowsRise low [] = ⊤
RowsRise low (row ∷ rows) = (low < row.number) × RowsRise row.number rows

-- rows by rising number, within the limits of a layout
pub record AreRows (layout : Layout) (rows : List Row) : Type 0 where
  pub rise : RowsRise 0 rows
  pub numbers : AllByRecursion (λ row. row.number ≤ greatest_number) rows
  pub few : length rows ≤ most_tunes layout

-- A state stands on the pages, its tunes where the rows say, what memory has of its indexes is
-- theirs, and what was claimed is its own.
pub record IsClaimed (pages : List (List ℕ)) (contents : Contents) (claimed : List Bool)
    : Type 0 where
  pub notes : contents.searches.notes ≡ notes_of contents.layout
  pub tunes : List Tune
  pub filed : Filed contents.layout pages tunes contents.sets
  pub within : IsState (record {
    layout = contents.layout;
    tunes = tunes;
    sets = contents.sets;
  })
  pub marks : ClaimsParts pages claimed
      (archive_parts filed.numbers filed.searches filed.set_lists filed.texts)
  pub listed : contents.rows.items ≡ rows_of_tunes tunes filed.texts
  pub numbers : KeepsIndex key_bytes contents.numbers filed.numbers
      (number_entries (rows_of_tunes tunes filed.texts))
  pub numbers_listed : contents.numbers.listed ≡ true
  pub searches : KeepsTexts contents.searches filed.searches (numbered_texts tunes)
  pub searches_listed : AreListed contents.searches
  pub firsts : contents.firsts ≡ firsts_of filed.numbers filed.searches filed.set_lists
