-- What an opening compares: the tunes with the entries of the search indexes.
use Rattle.std.specs.Prelude.{◌≡◌, ℕ, List, Contains}
use Rattle.std.specs.List.{AllByRecursion}
use Rattle.index_keys.specs.Entries.{Entry}
use Rattle.index_keys.specs.Holdings.{HoldsByNumber, keys_at}
use Rattle.tune_incipit.specs.ScaleAndIncipitKeys.{incipit_keys, scale_keys}
use Rattle.tune_search.specs.Searches.{SearchRuns}
use Rattle.tune_titles.specs.TitleAndRhythmKeys.{rhythm_keys, title_keys}

-- the numbers of the tunes, and the entries of each index
pub record ClaimShape : Type 0 where
  pub numbers : List ℕ
  pub runs : SearchRuns

-- four runs as one
abbrev pub runs_of : ℕ → List Entry → List Entry → List Entry → List Entry → SearchRuns
runs_of notes titles rhythms scales incipits = record {
  notes = notes;
  titles = titles;
  rhythms = rhythms;
  scales = scales;
  incipits = incipits;
}

-- the number of each entry is one of these
abbrev pub AreKnown : List ℕ → List Entry → Type 0
AreKnown numbers entries = AllByRecursion (λ entry. Contains numbers entry.1) entries

-- so it is in each index
pub record AreAllKnown (numbers : List ℕ) (runs : SearchRuns) : Type 0 where
  pub titles : AreKnown numbers runs.titles
  pub rhythms : AreKnown numbers runs.rhythms
  pub scales : AreKnown numbers runs.scales
  pub incipits : AreKnown numbers runs.incipits

-- in each index the number stands at exactly the keys of the text
pub record StandsAtKeys (runs : SearchRuns) (number : ℕ) (text : List ℕ) : Type 0 where
  pub titles : keys_at number runs.titles ≡ title_keys text
  pub rhythms : keys_at number runs.rhythms ≡ rhythm_keys text
  pub scales : keys_at number runs.scales ≡ scale_keys text
  pub incipits : keys_at number runs.incipits ≡ incipit_keys runs.notes text

-- The entries of each index are those of the tunes, seen one tune after another.
pub record HoldByNumber (tunes : List (ℕ × List ℕ)) (runs : SearchRuns) : Type 0 where
  pub titles : HoldsByNumber title_keys tunes runs.titles
  pub rhythms : HoldsByNumber rhythm_keys tunes runs.rhythms
  pub scales : HoldsByNumber scale_keys tunes runs.scales
  pub incipits : HoldsByNumber (incipit_keys runs.notes) tunes runs.incipits
