-- Search indexes as an opening claims them, one after another.
use Rattle.std.specs.Prelude.{◌≡◌, ℕ, Bool, true, List}
use Rattle.index_keys.specs.Groups.{grouped_entries}
use Rattle.tune_index.specs.ListedLeaves.{ClaimedPages, IsStored, LoadsIndex, StoredIndex}
use Rattle.tune_index.specs.ListedLeaves.{index_with, pages_claimed}
use Rattle.tune_pages.specs.Stand.{marked}
use Rattle.tune_search.specs.IncipitForms.{entries_held, notes_held}
use Rattle.tune_search.specs.Searches.{SearchRuns, SearchShape, incipit_bytes, key_bytes}
use Rattle.tune_search.specs.declared.loading.SearchEntries.{SearchEntries}
use Rattle.tune_search.specs.declared.loading.SearchFirsts.{SearchFirsts}

-- the entries, as contracts see them
abbrev pub runs_in : SearchEntries → SearchRuns
runs_in entries = record {
  notes = notes_held entries.incipits;
  titles = entries.titles.items;
  rhythms = grouped_entries entries.rhythms;
  scales = grouped_entries entries.scales;
  incipits = entries_held entries.incipits;
}

-- The four indexes and their entries: what memory has of the ones, and the others.
pub record SearchWithEntries : Type 0 where
  pub shape : SearchShape
  pub runs : SearchRuns

-- these four indexes, with these entries
abbrev pub search_with : SearchShape → SearchRuns → SearchWithEntries
search_with shape runs = record { shape = shape; runs = runs }

-- What is loaded are the four indexes that are stored there, with their entries, and their pages
-- are claimed: first those of the titles, then those of the rhythms, the scales and the incipits.
pub record LoadsSearch (most : ℕ) (was : ClaimedPages) (after : List Bool)
    (firsts : SearchFirsts) (loaded : SearchWithEntries) : Type 0 where
  pub notes : loaded.runs.notes ≡ loaded.shape.notes
  pub with_titles : List Bool
  pub with_rhythms : List Bool
  pub with_scales : List Bool
  pub titles : LoadsIndex key_bytes most was with_titles firsts.titles
      (index_with loaded.shape.titles loaded.runs.titles)
  pub rhythms : LoadsIndex key_bytes most (pages_claimed was.pages with_titles) with_rhythms
      firsts.rhythms (index_with loaded.shape.rhythms loaded.runs.rhythms)
  pub scales : LoadsIndex key_bytes most (pages_claimed was.pages with_rhythms) with_scales
      firsts.scales (index_with loaded.shape.scales loaded.runs.scales)
  pub incipits : LoadsIndex (incipit_bytes loaded.shape.notes) most
      (pages_claimed was.pages with_scales) after firsts.incipits
      (index_with loaded.shape.incipits loaded.runs.incipits)

-- An index is stored on pages that are still to be claimed, and once they are, this holds.
abbrev pub IsStoredThen : ℕ → List (List ℕ) → List Bool → ℕ → (List Bool → Type 0) → Type 0
IsStoredThen most pages claimed first Then = (trail : List ℕ) × (leaves : List ℕ)
    × StoredIndex key_bytes most (pages_claimed pages claimed) first trail leaves
    × Then (marked true leaves (marked true trail claimed))

-- Four indexes are stored there, that of incipits by so many notes, each on pages that those before
-- it leave.
abbrev pub AreStored : ℕ → ℕ → List (List ℕ) → List Bool → SearchFirsts → Type 0
AreStored notes most pages claimed firsts =
    IsStoredThen most pages claimed firsts.titles (λ with_titles.
    IsStoredThen most pages with_titles firsts.rhythms (λ with_rhythms.
    IsStoredThen most pages with_rhythms firsts.scales (λ with_scales.
    IsStored (incipit_bytes notes) most pages with_scales firsts.incipits)))
