-- How a loaded index is held: its parts stand behind those that were claimed before it.
use Rattle.std.specs.Prelude.{◌≡◌, ℕ, ◌≤◌, ◌++◌, Bool, true, false, List, length, map, replicate}
use Rattle.index_keys.specs.Entries.{Entry}
use Rattle.tune_index.specs.ListedLeaves.{ClaimedPages, IndexWithEntries, LoadsIndex}
use Rattle.tune_index.specs.ListedLeaves.{listed_bytes}
use Rattle.tune_journal.specs.Pages.{page_at}
use Rattle.tune_pages.specs.Stand.{marked}
use Rattle.tune_parts.specs.Parts.{AreParts, Part, chain_part, leaf_part, root_and_trails}
use Rattle.tune_search.specs.IndexParts.{HoldsIndex, IndexParts, KeepsIndex, parts_of_index}
use Rattle.tune_search.specs.Loaded.{LoadsSearch, SearchWithEntries}
use Rattle.tune_search.specs.Searches.{SearchParts, SearchRuns, incipit_bytes, key_bytes}
use Rattle.tune_search.specs.Searches.{parts_of_search}
use Rattle.tune_search.specs.declared.loading.SearchFirsts.{SearchFirsts}

-- what is claimed where these parts are: the root and their pages
abbrev pub ClaimsParts : List (List ℕ) → List Bool → List Part → Type 0
ClaimsParts pages claimed parts =
    claimed ≡ marked true (root_and_trails parts) (replicate (length pages) false)

-- These parts stand on the pages, and the root and their pages are what was claimed.
pub record HasClaimed (pages : List (List ℕ)) (claimed : List Bool) (parts : List Part)
    : Type 0 where
  pub are : AreParts pages parts
  pub marks : ClaimsParts pages claimed parts

-- AN INDEX
-- The parts have these entries, and there are at most so many of them.
pub record HoldsAtMost (width most : ℕ) (parts : IndexParts) (entries : List Entry)
    : Type 0 where
  pub holds : HoldsIndex width parts entries
  pub few : length entries ≤ most

-- the parts of an index with these leaves, and with its list on this chain
abbrev pub index_parts : List (List ℕ) → ℕ → List ℕ → List ℕ → IndexParts
index_parts pages first trail leaves = record {
  list = chain_part first trail (listed_bytes leaves);
  leaves = map (λ page. leaf_part page (page_at pages page)) leaves;
}

-- those of an index that was loaded
abbrev pub parts_loaded : {width most : ℕ} {was : ClaimedPages} {after : List Bool} {first : ℕ}
    {loaded : IndexWithEntries} → LoadsIndex width most was after first loaded → IndexParts
parts_loaded {was = was} {first = first} {loaded = loaded} loads =
    index_parts was.pages first loads.trail loaded.shape.pages

-- Behind these parts those of an index were claimed, and memory has it.
pub record HoldsLoaded (width : ℕ) (now : ClaimedPages) (front : List Part) (first : ℕ)
    (parts : IndexParts) (loaded : IndexWithEntries) : Type 0 where
  pub has : HasClaimed now.pages now.claimed (front ++ parts_of_index parts)
  pub keeps : KeepsIndex width loaded.shape parts loaded.entries
  pub begins : parts.list.first ≡ first

-- FOUR INDEXES
-- where the lists of four indexes begin
abbrev pub search_firsts_of : SearchParts → SearchFirsts
search_firsts_of parts = record {
  titles = parts.titles.list.first;
  rhythms = parts.rhythms.list.first;
  scales = parts.scales.list.first;
  incipits = parts.incipits.list.first;
}

-- Each of four indexes has these entries, and at most so many of them.
pub record HoldEachAtMost (most : ℕ) (parts : SearchParts) (entries : SearchRuns) : Type 0 where
  pub titles : HoldsAtMost key_bytes most parts.titles entries.titles
  pub rhythms : HoldsAtMost key_bytes most parts.rhythms entries.rhythms
  pub scales : HoldsAtMost key_bytes most parts.scales entries.scales
  pub incipits : HoldsAtMost (incipit_bytes entries.notes) most parts.incipits entries.incipits

-- the parts of four indexes that were loaded
abbrev pub search_loaded : {most : ℕ} {was : ClaimedPages} {after : List Bool}
    {firsts : SearchFirsts} {loaded : SearchWithEntries}
    → LoadsSearch most was after firsts loaded → SearchParts
search_loaded loads = record {
  titles = parts_loaded loads.titles;
  rhythms = parts_loaded loads.rhythms;
  scales = parts_loaded loads.scales;
  incipits = parts_loaded loads.incipits;
}

-- Behind these parts those of four indexes were claimed, and memory has each of them.
pub record HoldsLoadedSearch (now : ClaimedPages) (front : List Part) (firsts : SearchFirsts)
    (parts : SearchParts) (loaded : SearchWithEntries) : Type 0 where
  pub has : HasClaimed now.pages now.claimed (front ++ parts_of_search parts)
  pub notes : loaded.runs.notes ≡ loaded.shape.notes
  pub titles : KeepsIndex key_bytes loaded.shape.titles parts.titles loaded.runs.titles
  pub rhythms : KeepsIndex key_bytes loaded.shape.rhythms parts.rhythms loaded.runs.rhythms
  pub scales : KeepsIndex key_bytes loaded.shape.scales parts.scales loaded.runs.scales
  pub incipits : KeepsIndex (incipit_bytes loaded.shape.notes) loaded.shape.incipits
      parts.incipits loaded.runs.incipits
  pub begin : search_firsts_of parts ≡ firsts
