-- Tunes and the indexes of them, changed together.
use Rattle.std.specs.Prelude.{◌≡◌, ℕ, ◌+◌, ◌*◌, List}
use Rattle.tune_index.specs.Indexes.{Shape}
use Rattle.tune_pages.specs.Faults.{pages_for}
use Rattle.tune_pages.specs.Stand.{Stand}
use Rattle.tune_parts.specs.Parts.{Part, HoldsParts}
use Rattle.tune_search.specs.IndexParts.{IndexParts, KeepsIndex}
use Rattle.tune_search.specs.Searches.{SearchParts, SearchShape, key_bytes}
use Rattle.tune_sets.specs.declared.set_lists.TuneSet.{TuneSet}
use Rattle.tune_store.specs.Plans.{CanChange, changed_tunes}
use Rattle.tune_store.specs.State.{IsTunes}
use Rattle.tune_store.specs.declared.layout.Layout.{Layout}
use Rattle.tune_store.specs.declared.plans.Change.{Change}
use Rattle.tune_store.specs.declared.tune.Tune.{Tune}
use Rattle.tune_format.specs.Filed.{HoldTunes, archive_parts, numbered_texts, rows_of_tunes}
use Rattle.tune_format.specs.RootOffsets.{number_bytes}
use Rattle.tune_format.specs.Written.{number_entries}
use Rattle.tune_format.specs.declared.rows.Row.{Row}
use Rattle.tune_contents.specs.Holds.{KeepsTexts, labels_in}

-- what memory has of the indexes and of the tunes
pub record Keeps : Type 0 where
  pub numbers : Shape
  pub searches : SearchShape
  pub rows : List Row

abbrev pub keeps_of : Shape → SearchShape → List Row → Keeps
keeps_of numbers searches rows =
    record { numbers = numbers; searches = searches; rows = rows }

-- Around a part of any kind, that of the set lists, stand tunes as the rows say, and the indexes,
-- which hold exactly their entries; nothing else is in use.
pub record StandsAround (s : Stand) (keeps : Keeps) (tunes : List Tune) (set_lists : Part)
    : Type 0 where
  pub numbers : IndexParts
  pub searches : SearchParts
  pub texts : List Part
  pub holds : HoldsParts s (archive_parts numbers searches set_lists texts)
  pub keeps_numbers : KeepsIndex key_bytes keeps.numbers numbers
      (number_entries (rows_of_tunes tunes texts))
  pub keeps_searches : KeepsTexts keeps.searches searches (numbered_texts tunes)
  pub are_tunes : HoldTunes texts tunes
  pub listed : keeps.rows ≡ rows_of_tunes tunes texts

-- So stand tunes within the limits.
pub record HoldsIndexed (layout : Layout) (s : Stand) (keeps : Keeps) (tunes : List Tune)
    : Type 0 where
  pub set_lists : Part
  pub around : StandsAround s keeps tunes set_lists
  pub within : IsTunes layout tunes

abbrev pub HoldsSomeIndexed : Layout → Stand → Keeps → Type 0
HoldsSomeIndexed layout s keeps = (tunes : List Tune) × HoldsIndexed layout s keeps tunes

-- Whatever tunes within the limits stand so, they stand so after a change that can be made of
-- them; the part of the set lists stays.
abbrev pub LaysIndexed : Layout → Stand → Stand → Keeps → Keeps → Change → Type 0
LaysIndexed layout old new was is change = (set_lists : Part) (tunes : List Tune)
    (sets : List TuneSet) → IsTunes layout tunes
    → CanChange change layout (labels_in was.rows) sets
    → StandsAround old was tunes set_lists
    → StandsAround new is (changed_tunes change tunes) set_lists

-- how many pages the index of so many numbers has at most
abbrev pub index_pages : ℕ → ℕ
index_pages count = count + pages_for (number_bytes * count)
