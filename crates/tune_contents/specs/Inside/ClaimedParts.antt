-- What opening has claimed.
use Rattle.std.specs.Prelude.{◌≡◌, ℕ, ◌<◌, ◌≤◌, List, [], ◌∷◌, ◌++◌, Bool, true, All, length}
use Rattle.std.specs.List.{AllByRecursion}
use Rattle.abc_fields.specs.Tunes.{IsTextWithin}
use Rattle.index_keys.specs.Entries.{Entry}
use Rattle.tune_index.specs.ListedLeaves.{ClaimedPages, IndexWithEntries}
use Rattle.tune_journal.specs.FileOffsets.{block_bytes}
use Rattle.tune_journal.specs.Pages.{page_at}
use Rattle.tune_parts.specs.Parts.{AreParts, IsPart, Part}
use Rattle.tune_parts.specs.Parts.PartKind.{chain}
use Rattle.tune_search.specs.LoadedParts.{HasClaimed, HoldEachAtMost, HoldsAtMost, HoldsLoaded}
use Rattle.tune_search.specs.LoadedParts.{HoldsLoadedSearch}
use Rattle.tune_search.specs.LoadedParts as loaded
use Rattle.tune_search.specs.Loaded.{SearchWithEntries}
use Rattle.tune_search.specs.SearchClaims.{AreAllKnown, StandsAtKeys}
use Rattle.tune_search.specs.IndexParts.{IndexParts, KeepsIndex, parts_of_index}
use Rattle.tune_search.specs.SearchPages.{AreListed}
use Rattle.tune_search.specs.Searches.{SearchParts, SearchRuns, incipit_bytes, key_bytes}
use Rattle.tune_search.specs.Searches.{parts_of_search}
use Rattle.tune_search.specs.declared.loading.SearchFirsts.{SearchFirsts}
use Rattle.tune_store.specs.Limits.{greatest_revision, longest_text, notes_of}
use Rattle.tune_store.specs.State.{State, IsTune}
use Rattle.tune_store.specs.declared.layout.Layout.{Layout}
use Rattle.tune_store.specs.declared.tune.Tune.{Tune}
use Rattle.tune_format.specs.Filed.{HoldTunes, archive_parts, firsts_of, rows_of_tunes}
use Rattle.tune_format.specs.Searched.{AreSearchIndexes}
use Rattle.tune_format.specs.States.{IsStateOf}
use Rattle.tune_format.specs.Written.{IsRoot, number_entries, written_text}
use Rattle.tune_format.specs.declared.root.Firsts.{Firsts}
use Rattle.tune_format.specs.declared.rows.Row.{Row}
use Rattle.tune_contents.specs.Most.{most_tune_pages}
use Rattle.tune_contents.specs.Inside.ClaimedRows.{HaveFew}
use Rattle.tune_contents.specs.Inside.TuneRows.{numbers_of_rows}

-- each page has the bytes of a block
abbrev pub AreBlocks : List (List ℕ) → Type 0
AreBlocks pages = All (λ page. length page ≡ block_bytes) pages

-- ONE PART
-- Behind parts that were claimed, a chain that begins at this page was, with these bytes.
pub record ClaimsPart (pages : List (List ℕ)) (front : List Part) (now : List Bool) (first : ℕ)
    (bytes : List ℕ) : Type 0 where
  pub part : Part
  pub has : HasClaimed pages now (front ++ part ∷ [])
  pub is_chain : part.kind ≡ chain
  pub is_first : part.first ≡ first
  pub holds : part.bytes ≡ bytes
  pub only : (other : Part) → other.kind ≡ chain → IsPart pages other → other.first ≡ first
      → other ≡ part

-- Behind these parts some chain stands there that begins at this page, of at most so many pages,
-- and more parts behind it.
pub record IsPartThere (pages : List (List ℕ)) (front : List Part) (first most : ℕ) : Type 0 where
  pub part : Part
  pub more : List Part
  pub are : AreParts pages (front ++ part ∷ more)
  pub is_chain : part.kind ≡ chain
  pub is_first : part.first ≡ first
  pub few : length part.trail ≤ most

-- INDEXES
-- Behind parts that were claimed, an index of at most so many entries was whose list begins at
-- this page, and memory has it, with these entries. No other stands there.
pub record ClaimsIndex (most : ℕ) (now : ClaimedPages) (front : List Part) (first : ℕ)
    (index : IndexWithEntries) : Type 0 where
  pub parts : IndexParts
  pub held : HoldsLoaded key_bytes now front first parts index
  pub listed : index.shape.listed ≡ true
  pub only : (other : IndexParts) (others : List Entry) (more : List Part)
      → AreParts now.pages (front ++ (parts_of_index other ++ more))
      → HoldsAtMost key_bytes most other others → other.list.first ≡ first
      → (other ≡ parts) × (others ≡ index.entries)

-- Behind these parts some index stands there whose list begins at this page, of at most so many
-- entries, and more parts behind it.
pub record IsIndexThere (most : ℕ) (pages : List (List ℕ)) (front : List Part) (first : ℕ)
    : Type 0 where
  pub parts : IndexParts
  pub entries : List Entry
  pub more : List Part
  pub are : AreParts pages (front ++ (parts_of_index parts ++ more))
  pub holds : HoldsAtMost key_bytes most parts entries
  pub is_first : parts.list.first ≡ first

-- the same of the four search indexes
pub record ClaimsSearch (most : ℕ) (now : ClaimedPages) (front : List Part)
    (firsts : SearchFirsts) (search : SearchWithEntries) : Type 0 where
  pub parts : SearchParts
  pub held : HoldsLoadedSearch now front firsts parts search
  pub listed : AreListed search.shape
  pub only : (other : SearchParts) (others : SearchRuns) (more : List Part)
      → AreParts now.pages (front ++ (parts_of_search other ++ more))
      → others.notes ≡ search.runs.notes → HoldEachAtMost most other others
      → loaded.search_firsts_of other ≡ firsts → (other ≡ parts) × (others ≡ search.runs)

pub record IsSearchThere (notes most : ℕ) (pages : List (List ℕ)) (front : List Part)
    (firsts : SearchFirsts) : Type 0 where
  pub parts : SearchParts
  pub runs : SearchRuns
  pub same : runs.notes ≡ notes
  pub more : List Part
  pub are : AreParts pages (front ++ (parts_of_search parts ++ more))
  pub holds : HoldEachAtMost most parts runs
  pub are_first : loaded.search_firsts_of parts ≡ firsts

-- WHAT THE ROOT NAMES
-- the entries of the four search indexes
abbrev pub runs_filed : {notes : ℕ} {tunes : List (ℕ × List ℕ)} {searches : SearchParts}
    → AreSearchIndexes notes tunes searches → SearchRuns
runs_filed {notes = notes} are = record {
  notes = notes;
  titles = are.titles.entries;
  rhythms = are.rhythms.entries;
  scales = are.scales.entries;
  incipits = are.incipits.entries;
}

-- What is filed has these indexes and set lists, with these entries.
pub record HasLists {pages : List (List ℕ)} {state : State} (is : IsStateOf pages state)
    (numbers : IndexParts) (searches : SearchParts) (set_lists : Part) (entries : List Entry)
    (runs : SearchRuns) : Type 0 where
  pub are_numbers : is.filed.numbers ≡ numbers
  pub are_searches : is.filed.searches ≡ searches
  pub are_sets : is.filed.set_lists ≡ set_lists
  pub are_entries : number_entries (rows_of_tunes state.tunes is.filed.texts) ≡ entries
  pub are_runs : runs_filed is.filed.are_searches ≡ runs

-- The root says the layout, and names the index of numbers, the search indexes and the set lists,
-- and these were claimed: memory has the indexes, with these entries, and the set lists are these
-- bytes. Each state that stands on the pages has them.
pub record ClaimsLists (layout : Layout) (now : ClaimedPages) (firsts : Firsts)
    (index : IndexWithEntries) (search : SearchWithEntries) (bytes : List ℕ) : Type 0 where
  pub numbers : IndexParts
  pub searches : SearchParts
  pub set_lists : Part
  pub has : HasClaimed now.pages now.claimed (archive_parts numbers searches set_lists [])
  pub root : IsRoot layout (page_at now.pages 0) firsts
  pub firsts_are : firsts ≡ firsts_of numbers searches set_lists
  pub keeps : KeepsIndex key_bytes index.shape numbers index.entries
  pub listed : index.shape.listed ≡ true
  pub notes : search.shape.notes ≡ notes_of layout
  pub of_runs : search.runs.notes ≡ search.shape.notes
  pub titles : KeepsIndex key_bytes search.shape.titles searches.titles search.runs.titles
  pub rhythms : KeepsIndex key_bytes search.shape.rhythms searches.rhythms search.runs.rhythms
  pub scales : KeepsIndex key_bytes search.shape.scales searches.scales search.runs.scales
  pub incipits : KeepsIndex (incipit_bytes search.shape.notes) search.shape.incipits
      searches.incipits search.runs.incipits
  pub all_listed : AreListed search.shape
  pub sets_are_chain : set_lists.kind ≡ chain
  pub sets_hold : set_lists.bytes ≡ bytes
  pub only : (state : State) (is : IsStateOf now.pages state)
      → HasLists is numbers searches set_lists index.entries search.runs

-- where there is a page
abbrev pub ListsClaimed : Layout → ClaimedPages → Firsts → IndexWithEntries → SearchWithEntries
    → List ℕ → Type 0
ListsClaimed layout now firsts index search bytes = 0 < length now.pages
    → ClaimsLists layout now firsts index search bytes

-- ONE TUNE
-- Where tunes are claimed: in an archive of this layout, on these pages, behind these parts, and
-- with these entries in the search indexes.
pub record TuneSite : Type 0 where
  pub layout : Layout
  pub pages : List (List ℕ)
  pub front : List Part
  pub runs : SearchRuns

-- in this archive, behind these parts
abbrev pub tune_site : Layout → List (List ℕ) → List Part → SearchRuns → TuneSite
tune_site layout pages front runs =
    record { layout = layout; pages = pages; front = front; runs = runs }

-- these bytes are a revision and the text of one tune, within the limits
pub record IsTuneChain (layout : Layout) (bytes : List ℕ) (revision : ℕ) (text : List ℕ)
    : Type 0 where
  pub written : written_text revision text ≡ bytes
  pub revised : 0 < revision
  pub few : revision ≤ greatest_revision
  pub good : IsTextWithin (longest_text layout) text

-- Behind parts that were claimed, the tune of a row was, and its number stands at its keys.
pub record ClaimsTune (site : TuneSite) (now : List Bool) (row : Row) : Type 0 where
  pub bytes : List ℕ
  pub claims : ClaimsPart site.pages site.front now row.first bytes
  pub text : List ℕ
  pub tune : IsTuneChain site.layout bytes row.revision text
  pub measured : row.length ≡ length text
  pub keys : StandsAtKeys site.runs row.number text

-- A chain of these bytes holds the tune of a row, whose number stands at its keys.
pub record HoldsTuneOf (layout : Layout) (runs : SearchRuns) (bytes : List ℕ) (row : Row)
    : Type 0 where
  pub text : List ℕ
  pub tune : IsTuneChain layout bytes row.revision text
  pub measured : row.length ≡ length text
  pub keys : StandsAtKeys runs row.number text

-- it holds some tune, at whose keys this number stands
pub record HoldsTune (layout : Layout) (runs : SearchRuns) (number : ℕ) (bytes : List ℕ)
    : Type 0 where
  pub revision : ℕ
  pub text : List ℕ
  pub tune : IsTuneChain layout bytes revision text
  pub keys : StandsAtKeys runs number text

-- Behind these parts some tune stands there at whose keys this number stands, and more parts
-- behind it.
pub record IsTuneThere (site : TuneSite) (number first : ℕ) : Type 0 where
  pub there : IsPartThere site.pages site.front first (most_tune_pages site.layout)
  pub revision : ℕ
  pub text : List ℕ
  pub tune : IsTuneChain site.layout there.part.bytes revision text
  pub keys : StandsAtKeys site.runs number text

-- THE TUNES OF A LIST
-- Behind parts that were claimed, the chains of these rows were, one after another, each with its
-- bytes.
abbrev pub ChainsClaimed : List (List ℕ) → List Part → List Bool → List Row → List (List ℕ)
    → Type 0
ChainsClaimed pages front now [] [] = HasClaimed pages now front
ChainsClaimed pages front now [] (bytes ∷ chains) = ⊥
ChainsClaimed pages front now (row ∷ rows) [] = ⊥
ChainsClaimed pages front now (row ∷ rows) (bytes ∷ chains) = (mid : List Bool)
    × (claims : ClaimsPart pages front mid row.first bytes)
    × ChainsClaimed pages (front ++ claims.part ∷ []) now rows chains

-- the number of each tune stands at the keys of its text
abbrev pub StandAtKeys : SearchRuns → List Tune → Type 0
StandAtKeys runs tunes = AllByRecursion (λ tune. StandsAtKeys runs tune.number tune.text) tunes

-- Behind these parts stand those of tunes, each within the limits, with the numbers and the first
-- pages of these rows, and each number stands at the keys of its tune.
pub record TunesStand (site : TuneSite) (rows : List Row) (tunes : List Tune)
    (texts : List Part) : Type 0 where
  pub sized : AreBlocks site.pages
  pub are : AreParts site.pages (site.front ++ texts)
  pub hold : HoldTunes texts tunes
  pub listed : number_entries (rows_of_tunes tunes texts) ≡ number_entries rows
  pub each : AllByRecursion (IsTune site.layout) tunes
  pub keys : StandAtKeys site.runs tunes

-- tunes of these rows stand behind these parts
abbrev pub AreTunesThere : TuneSite → List Row → Type 0
AreTunesThere site rows =
    (tunes : List Tune) × (texts : List Part) × TunesStand site rows tunes texts

-- So they do, and no other number stands in the search indexes, which have few entries.
pub record AreRowsThere (site : TuneSite) (rows : List Row) : Type 0 where
  pub few : HaveFew site.runs
  pub known : AreAllKnown (numbers_of_rows rows) site.runs
  pub tunes : AreTunesThere site rows

-- Behind parts that were claimed, the tunes of these rows were.
pub record TunesClaimed (site : TuneSite) (claimed : List Bool) (rows : List Row)
    : Type 0 where
  pub tunes : List Tune
  pub texts : List Part
  pub has : HasClaimed site.pages claimed (site.front ++ texts)
  pub hold : HoldTunes texts tunes
  pub rows_are : rows ≡ rows_of_tunes tunes texts
  pub each : AllByRecursion (IsTune site.layout) tunes
  pub keys : StandAtKeys site.runs tunes

-- So far: the tunes of these rows were claimed, and where tunes of the whole list stand, those of
-- the rest of it stand behind these.
pub record ClaimsSoFar (site : TuneSite) (list : List Row) (claimed : List Bool)
    (rows rest : List Row) : Type 0 where
  pub so_far : TunesClaimed site claimed rows
  pub goes_on : AreTunesThere site list
      → AreTunesThere (record site { front = site.front ++ so_far.texts }) rest

-- ALL
-- some state stands on the pages
abbrev pub IsStateThere : List (List ℕ) → Type 0
IsStateThere pages = (state : State) × IsStateOf pages state
