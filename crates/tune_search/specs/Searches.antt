-- The four search indexes of an archive: by titles, rhythms, scales and incipits (own profile).
use Rattle.std.specs.Prelude.{ℕ, ◌+◌, ◌*◌, ◌∷◌, ◌++◌, [], List}
use Rattle.index_keys.specs.Entries.{AllFit, Entry, IsRising}
use Rattle.index_keys.specs.Holdings.{HoldsEntries}
use Rattle.tune_incipit.specs.ScaleAndIncipitKeys.{incipit_keys, scale_keys}
use Rattle.tune_index.specs.Indexes.{Shape}
use Rattle.tune_pages.specs.Stand.{Stand}
use Rattle.tune_parts.specs.Parts.{HoldsParts, Part}
use Rattle.tune_search.specs.IndexParts.{IndexParts, KeepsIndex, parts_of_index}
use Rattle.tune_titles.specs.TitleAndRhythmKeys.{rhythm_keys, title_keys}

-- how many bytes a key has
abbrev pub key_bytes : ℕ
key_bytes = 32

-- and one of an incipit by so many notes
abbrev pub incipit_bytes : ℕ → ℕ
incipit_bytes notes = 4 * notes

-- TUNES
-- texts with their numbers: these from one on
abbrev pub texts_numbered : ℕ → List (List ℕ) → List (ℕ × List ℕ)
texts_numbered first [] = []
texts_numbered first (text ∷ texts) = (first, text) ∷ texts_numbered (first + 1) texts

-- WHAT MEMORY HAS
-- the four indexes, as contracts see them, and by how many notes incipits are kept
pub record SearchShape : Type 0 where
  pub notes : ℕ
  pub titles : Shape
  pub rhythms : Shape
  pub scales : Shape
  pub incipits : Shape

-- four runs of entries, and by how many notes those of incipits are
pub record SearchRuns : Type 0 where
  pub notes : ℕ
  pub titles : List Entry
  pub rhythms : List Entry
  pub scales : List Entry
  pub incipits : List Entry

-- A run that goes into an index or out of it: the entries of the tunes, in order.
pub record IsRunOf (width : ℕ) (keys_of : List ℕ → List ℕ) (tunes : List (ℕ × List ℕ))
    (run : List Entry) : Type 0 where
  pub rising : IsRising run
  pub exact : HoldsEntries keys_of tunes run
  pub fit : AllFit width run

-- the runs of the tunes for each index
pub record AreRunsOf (tunes : List (ℕ × List ℕ)) (runs : SearchRuns) : Type 0 where
  pub titles : IsRunOf key_bytes title_keys tunes runs.titles
  pub rhythms : IsRunOf key_bytes rhythm_keys tunes runs.rhythms
  pub scales : IsRunOf key_bytes scale_keys tunes runs.scales
  pub incipits : IsRunOf (incipit_bytes runs.notes) (incipit_keys runs.notes) tunes runs.incipits

-- WHAT STANDS ON PAGES
-- the parts of the four indexes
pub record SearchParts : Type 0 where
  pub titles : IndexParts
  pub rhythms : IndexParts
  pub scales : IndexParts
  pub incipits : IndexParts

abbrev pub parts_of_search : SearchParts → List Part
parts_of_search parts = parts_of_index parts.titles ++ (parts_of_index parts.rhythms
    ++ (parts_of_index parts.scales ++ parts_of_index parts.incipits))

-- an index holds exactly the entries of the tunes
pub record HoldsKeys (width : ℕ) (keys_of : List ℕ → List ℕ) (tunes : List (ℕ × List ℕ))
    (shape : Shape) (parts : IndexParts) : Type 0 where
  pub entries : List Entry
  pub keeps : KeepsIndex width shape parts entries
  pub exact : HoldsEntries keys_of tunes entries

-- The four indexes hold exactly the entries of the tunes, among any other parts.
pub record HoldsTexts (s : Stand) (shape : SearchShape) (before after : List Part)
    (parts : SearchParts) (tunes : List (ℕ × List ℕ)) : Type 0 where
  pub holds : HoldsParts s (before ++ (parts_of_search parts ++ after))
  pub titles : HoldsKeys key_bytes title_keys tunes shape.titles parts.titles
  pub rhythms : HoldsKeys key_bytes rhythm_keys tunes shape.rhythms parts.rhythms
  pub scales : HoldsKeys key_bytes scale_keys tunes shape.scales parts.scales
  pub incipits : HoldsKeys (incipit_bytes shape.notes) (incipit_keys shape.notes) tunes
      shape.incipits parts.incipits

-- some tunes stand so
abbrev pub HoldsSomeTexts : Stand → SearchShape → Type 0
HoldsSomeTexts s shape = (before : List Part) × (after : List Part) × (parts : SearchParts)
    × (tunes : List (ℕ × List ℕ)) × HoldsTexts s shape before after parts tunes
