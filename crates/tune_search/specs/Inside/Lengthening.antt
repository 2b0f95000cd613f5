-- An index of incipits by eight notes, and the one by twelve in its place.
use Rattle.std.specs.Prelude.{List, []}
use Rattle.index_keys.specs.Entries.{Entry, inserted_all}
use Rattle.tune_index.specs.Indexes.{Shape}
use Rattle.tune_index.specs.ListedLeaves.{index_with}
use Rattle.tune_pages.specs.Stand.{Stand}
use Rattle.tune_parts.specs.Parts.{Part}
use Rattle.tune_search.specs.IndexParts.{HoldsIndexAmong, IndexParts}

-- Wherever the one stands among other parts, the other stands among these then, with the entries
-- of the run by twelve notes.
abbrev pub Lengthens : Stand → Stand → Shape → Shape → List Entry → Type 0
Lengthens old new was is run = (before after : List Part) (parts : IndexParts)
    (entries : List Entry) → HoldsIndexAmong 32 old (index_with was entries) before after parts
    → (next : IndexParts)
    × HoldsIndexAmong 48 new (index_with is (inserted_all run [])) before after next
