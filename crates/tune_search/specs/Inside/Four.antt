-- The four search indexes among other parts, whatever their entries are of.
use Rattle.std.specs.Prelude.{ℕ, ◌+◌, ◌++◌, length, List}
use Rattle.index_keys.specs.Entries.{inserted_all, removed_all}
use Rattle.tune_pages.specs.Stand.{Stand}
use Rattle.tune_parts.specs.Parts.{HoldsParts, Part}
use Rattle.tune_search.specs.IndexParts.{KeepsIndex}
use Rattle.tune_search.specs.Searches.{SearchParts, SearchRuns, SearchShape, incipit_bytes}
use Rattle.tune_search.specs.Searches.{key_bytes, parts_of_search}

-- what memory has of the indexes is that of these parts, with these entries
pub record KeepsFour (shape : SearchShape) (parts : SearchParts) (entries : SearchRuns)
    : Type 0 where
  pub titles : KeepsIndex key_bytes shape.titles parts.titles entries.titles
  pub rhythms : KeepsIndex key_bytes shape.rhythms parts.rhythms entries.rhythms
  pub scales : KeepsIndex key_bytes shape.scales parts.scales entries.scales
  pub incipits : KeepsIndex (incipit_bytes shape.notes) shape.incipits parts.incipits
      entries.incipits

-- they stand among any others
pub record HoldsFour (s : Stand) (shape : SearchShape) (before after : List Part)
    (parts : SearchParts) (entries : SearchRuns) : Type 0 where
  pub holds : HoldsParts s (before ++ (parts_of_search parts ++ after))
  pub keeps : KeepsFour shape parts entries

abbrev pub HoldsSomeFour : Stand → SearchShape → Type 0
HoldsSomeFour s shape = (before : List Part) × (after : List Part) × (parts : SearchParts)
    × (entries : SearchRuns) × HoldsFour s shape before after parts entries

-- Whatever indexes stand there, among whatever parts, their entries are changed so, and all other
-- parts stay.
abbrev pub LaysFour : Stand → Stand → SearchShape → SearchShape → (SearchRuns → SearchRuns)
    → Type 0
LaysFour old new was is change = (before after : List Part) (parts : SearchParts)
    (entries : SearchRuns) → HoldsFour old was before after parts entries
    → (next : SearchParts) × HoldsFour new is before after next (change entries)

-- how many entries there are
abbrev pub entry_count : SearchRuns → ℕ
entry_count entries = length entries.titles + length entries.rhythms + length entries.scales
    + length entries.incipits

-- the entries with these runs put in, or taken out
abbrev pub runs_put_in : SearchRuns → SearchRuns → SearchRuns
runs_put_in runs entries = record {
  notes = entries.notes;
  titles = inserted_all runs.titles entries.titles;
  rhythms = inserted_all runs.rhythms entries.rhythms;
  scales = inserted_all runs.scales entries.scales;
  incipits = inserted_all runs.incipits entries.incipits;
}

abbrev pub taken_out : SearchRuns → SearchRuns → SearchRuns
taken_out runs entries = record {
  notes = entries.notes;
  titles = removed_all runs.titles entries.titles;
  rhythms = removed_all runs.rhythms entries.rhythms;
  scales = removed_all runs.scales entries.scales;
  incipits = removed_all runs.incipits entries.incipits;
}
