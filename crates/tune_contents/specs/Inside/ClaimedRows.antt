-- Where the tunes of an archive stand, as it keeps them in memory.
use Rattle.std.specs.Prelude.{◌≡◌, ℕ, ◌^◌, ◌<◌, ◌≤◌, List, [], ◌∷◌, ◌++◌, ◌⊎◌, All, length}
use Rattle.std.specs.List.{AllByRecursion}
use Rattle.index_keys.specs.Entries.{Entry}
use Rattle.tune_search.specs.Searches.{SearchRuns}
use Rattle.tune_sets.specs.declared.set_lists.TuneSet.{TuneSet}
use Rattle.tune_store.specs.Limits.{greatest_number}
use Rattle.tune_store.specs.declared.layout.Layout.{Layout}
use Rattle.tune_format.specs.Written.{number_entries}
use Rattle.tune_format.specs.declared.rows.Row.{Row}
use Rattle.tune_contents.specs.Claimed.{AreRows, RowsRise}

-- these are the entries of rows within the limits
abbrev pub AreEntriesOfRows : Layout → List Entry → Type 0
AreEntriesOfRows layout entries =
    (rows : List Row) × AreRows layout rows × (number_entries rows ≡ entries)

-- these are the entries of rows whose numbers rise from this one
pub record AreEntriesFrom (low : ℕ) (entries : List Entry) : Type 0 where
  pub rows : List Row
  pub rise : RowsRise low rows
  pub numbers : AllByRecursion (λ row. row.number ≤ greatest_number) rows
  pub same : number_entries rows ≡ entries

-- The rows of the front of a list of entries: they rise up to this number, and the list goes on
-- with `rest`.
pub record RowsSoFar (list : List Entry) (rows : List Row) (low : ℕ) (rest : List Entry)
    : Type 0 where
  pub rise : RowsRise 0 rows
  pub numbers : AllByRecursion (λ row. row.number ≤ greatest_number) rows
  pub below : AllByRecursion (λ row. row.number ≤ low) rows
  pub listed : list ≡ number_entries rows ++ rest
  pub goes_on : AreEntriesFrom 0 list → AreEntriesFrom low rest

-- fewer than 2 ^ 32 entries in each of the search indexes
pub record HaveFew (runs : SearchRuns) : Type 0 where
  pub titles : length runs.titles < 2 ^ 32
  pub rhythms : length runs.rhythms < 2 ^ 32
  pub scales : length runs.scales < 2 ^ 32
  pub incipits : length runs.incipits < 2 ^ 32

-- one of the rows has this number
abbrev pub HasNumber : List Row → ℕ → Type 0
HasNumber [] number = ⊥
HasNumber (row ∷ rows) number = (row.number ≡ number) ⊎ HasNumber rows number

-- each of these numbers is that of a row
abbrev pub NumberRows : List Row → List ℕ → Type 0
NumberRows rows numbers = All (HasNumber rows) numbers

-- each place of each set names a row
abbrev pub NameRows : List Row → List TuneSet → Type 0
NameRows rows sets = All (λ set. NumberRows rows set.numbers) sets
