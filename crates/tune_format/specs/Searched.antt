-- Search indexes on pages: each holds exactly the entries of the tunes.
use Rattle.std.specs.Prelude.{ℕ, ◌*◌, List}
use Rattle.index_keys.specs.Entries.{Entry}
use Rattle.index_keys.specs.Holdings.{HoldsEntries}
use Rattle.tune_search.specs.IndexParts.{HoldsIndex, IndexParts}
use Rattle.tune_search.specs.Searches.{SearchParts, key_bytes}
use Rattle.tune_incipit.specs.ScaleAndIncipitKeys.{incipit_keys, scale_keys}
use Rattle.tune_titles.specs.TitleAndRhythmKeys.{rhythm_keys, title_keys}

-- The parts of an index with keys of so many bytes hold exactly the entries of the tunes, each a
-- number and a text.
pub record IsSearchIndex (width : ℕ) (keys_of : List ℕ → List ℕ) (tunes : List (ℕ × List ℕ))
    (index : IndexParts) : Type 0 where
  pub entries : List Entry
  pub holds : HoldsIndex width index entries
  pub exact : HoldsEntries keys_of tunes entries

-- So do the four, of which that of the incipits goes by so many notes, with four bytes for each.
pub record AreSearchIndexes (notes : ℕ) (tunes : List (ℕ × List ℕ)) (searches : SearchParts)
    : Type 0 where
  pub titles : IsSearchIndex key_bytes title_keys tunes searches.titles
  pub rhythms : IsSearchIndex key_bytes rhythm_keys tunes searches.rhythms
  pub scales : IsSearchIndex key_bytes scale_keys tunes searches.scales
  pub incipits : IsSearchIndex (4 * notes) (incipit_keys notes) tunes searches.incipits
