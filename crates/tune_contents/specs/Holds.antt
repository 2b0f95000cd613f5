-- What an archive holds on its pages.
use Rattle.std.specs.Prelude.{◌≡◌, ℕ, List, true, map}
use Rattle.tune_index.specs.Indexes.{Shape}
use Rattle.tune_incipit.specs.ScaleAndIncipitKeys.{incipit_keys, scale_keys}
use Rattle.tune_pages.specs.Stand.{Stand}
use Rattle.tune_parts.specs.Parts.{HoldsParts}
use Rattle.tune_search.specs.IndexParts.{KeepsIndex}
use Rattle.tune_search.specs.SearchPages.{AreListed}
use Rattle.tune_search.specs.Searches.{HoldsKeys, SearchParts, SearchShape, incipit_bytes}
use Rattle.tune_search.specs.Searches.{key_bytes}
use Rattle.tune_sets.specs.declared.set_lists.TuneSet.{TuneSet}
use Rattle.tune_store.specs.Limits.{notes_of}
use Rattle.tune_store.specs.State.{State, IsState}
use Rattle.tune_store.specs.declared.catalog.Label.{Label}
use Rattle.tune_store.specs.declared.layout.Layout.{Layout}
use Rattle.tune_store.specs.declared.plans.Change.{Change}
use Rattle.tune_store.specs.Plans.{changed}
use Rattle.tune_titles.specs.TitleAndRhythmKeys.{rhythm_keys, title_keys}
use Rattle.tune_format.specs.Filed.{Filed, archive_parts, firsts_of, numbered_texts}
use Rattle.tune_format.specs.Filed.{rows_of_tunes}
use Rattle.tune_format.specs.Written.{number_entries}
use Rattle.tune_format.specs.declared.root.Firsts.{Firsts}
use Rattle.tune_format.specs.declared.rows.Row.{Row}
use Rattle.tune_contents.specs.declared.contents.Contents.{Contents}

-- the label of the tune of a row
abbrev pub label_in : Row → Label
label_in row =
    record { number = row.number; revision = row.revision; length = row.length }

-- the labels of the tunes of rows
abbrev pub labels_in : List Row → List Label
labels_in rows = map label_in rows

-- What memory has of the search indexes is that of these parts, with exactly the entries of these
-- tunes.
pub record KeepsTexts (shape : SearchShape) (parts : SearchParts) (tunes : List (ℕ × List ℕ))
    : Type 0 where
  pub titles : HoldsKeys key_bytes title_keys tunes shape.titles parts.titles
  pub rhythms : HoldsKeys key_bytes rhythm_keys tunes shape.rhythms parts.rhythms
  pub scales : HoldsKeys key_bytes scale_keys tunes shape.scales parts.scales
  pub incipits : HoldsKeys (incipit_bytes shape.notes) (incipit_keys shape.notes) tunes
      shape.incipits parts.incipits

-- what memory has of an archive
pub record Memory : Type 0 where
  pub layout : Layout
  pub rows : List Row
  pub numbers : Shape
  pub searches : SearchShape
  pub sets : List TuneSet
  pub firsts : Firsts

abbrev pub memory_of : Contents → Memory
memory_of contents = record {
  layout = contents.layout;
  rows = contents.rows.items;
  numbers = contents.numbers;
  searches = contents.searches;
  sets = contents.sets;
  firsts = contents.firsts;
}

-- The pages hold a state, and nothing else is in use. Its tunes stand where the rows say; its set
-- lists and its indexes are those in memory, and where they begin is known.
pub record HoldsMemory (s : Stand) (memory : Memory) (state : State) : Type 0 where
  pub layout : memory.layout ≡ state.layout
  pub notes : memory.searches.notes ≡ notes_of state.layout
  pub filed : Filed state.layout s.pages state.tunes state.sets
  pub holds : HoldsParts s
      (archive_parts filed.numbers filed.searches filed.set_lists filed.texts)
  pub listed : memory.rows ≡ rows_of_tunes state.tunes filed.texts
  pub numbers : KeepsIndex key_bytes memory.numbers filed.numbers
      (number_entries (rows_of_tunes state.tunes filed.texts))
  pub numbers_listed : memory.numbers.listed ≡ true
  pub searches : KeepsTexts memory.searches filed.searches (numbered_texts state.tunes)
  pub searches_listed : AreListed memory.searches
  pub sets : memory.sets ≡ state.sets
  pub firsts : memory.firsts ≡ firsts_of filed.numbers filed.searches filed.set_lists

-- so do the contents of an archive
abbrev pub HoldsContents : Stand → Contents → State → Type 0
HoldsContents s contents state = HoldsMemory s (memory_of contents) state

-- they hold some state that is within the limits
abbrev pub HoldsSomeState : Stand → Contents → Type 0
HoldsSomeState s contents = (state : State) × IsState state × HoldsContents s contents state

-- Whatever state within the limits they hold, they then hold that after the change, and memory has
-- this of it.
abbrev pub LaysMemory : Stand → Stand → Contents → Memory → Change → Type 0
LaysMemory old new contents memory change = (state : State) → IsState state
    → HoldsContents old contents state → HoldsMemory new memory (changed change state)

abbrev pub LaysState : Stand → Stand → Contents → Contents → Change → Type 0
LaysState old new contents left change = LaysMemory old new contents (memory_of left) change
