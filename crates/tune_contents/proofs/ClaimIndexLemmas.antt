-- Indexes that are claimed.
use Rattle.std.proofs.Common.{ℕ, ◌^◌, ◌<◌, List, length, Bool, subst}
use Rattle.index_keys.specs.Entries.{Entry}
use Rattle.tune_index.specs.Indexes.{Shape}
use Rattle.tune_index.specs.ListedLeaves.{IsStored, LoadsIndex, index_with, pages_claimed}
use Rattle.tune_parts.specs.Parts.{Part}
use Rattle.tune_search.specs.LoadedParts.{HasClaimed, search_firsts_of, parts_loaded, search_loaded}
use Rattle.tune_search.specs.Loaded.{AreStored, LoadsSearch, search_with}
use Rattle.tune_search.specs.Searches.{SearchRuns, SearchShape, key_bytes}
use Rattle.tune_search.specs.declared.loading.SearchFirsts.{SearchFirsts}
use Rattle.tune_search.proofs.LoadedFour.{held_four, same_four, there_four}
use Rattle.tune_search.proofs.LoadedIndex.{held_loaded, same_loaded, there_stored}
use Rattle.tune_contents.specs.Inside.ClaimedParts.{ClaimsIndex, ClaimsSearch, IsIndexThere, IsSearchThere}

pub index_claimed : (most : ℕ) (pages : List (List ℕ)) (claimed now : List Bool) (first : ℕ) (shape : Shape) (entries : List Entry) (front : List Part)
    → length claimed < 256 ^ 4 → HasClaimed pages claimed front → LoadsIndex key_bytes most (pages_claimed pages claimed) now first (index_with shape entries)
    → ClaimsIndex most (pages_claimed pages now) front first (index_with shape entries)
index_claimed most pages claimed now first shape entries front few has loads = record {
  parts = parts_loaded loads;
  held = held_loaded key_bytes most pages claimed now first shape entries front has loads;
  listed = loads.listed;
  only = λ other others more are holds begins.
      same_loaded key_bytes most pages claimed now first shape entries loads other others front more few are has.marks holds begins;
}

pub index_stored : (most : ℕ) (pages : List (List ℕ)) (claimed : List Bool) (first : ℕ) (front : List Part) → HasClaimed pages claimed front
    → IsIndexThere most pages front first → IsStored key_bytes most pages claimed first
index_stored most pages claimed first front has there =
    subst (λ (f : ℕ). IsStored key_bytes most pages claimed f) there.is_first
    (there_stored key_bytes most pages claimed there.parts there.entries front there.more there.are has.marks there.holds)

pub search_claimed : (most : ℕ) (pages : List (List ℕ)) (claimed now : List Bool) (firsts : SearchFirsts) (shape : SearchShape) (runs : SearchRuns)
    (front : List Part) → length claimed < 256 ^ 4 → HasClaimed pages claimed front
    → LoadsSearch most (pages_claimed pages claimed) now firsts (search_with shape runs)
    → ClaimsSearch most (pages_claimed pages now) front firsts (search_with shape runs)
search_claimed most pages claimed now firsts shape runs front few has loads = record {
  parts = search_loaded loads;
  held = held_four most pages claimed now firsts shape runs front has loads;
  listed = record {
    titles = loads.titles.listed;
    rhythms = loads.rhythms.listed;
    scales = loads.scales.listed;
    incipits = loads.incipits.listed;
  };
  only = λ other others more are notes holds begin.
      same_four most pages claimed now firsts shape runs loads other others front more few are has.marks notes holds begin;
}

pub search_stored : (notes most : ℕ) (pages : List (List ℕ)) (claimed : List Bool) (firsts : SearchFirsts) (front : List Part) → HasClaimed pages claimed front
    → IsSearchThere notes most pages front firsts → AreStored notes most pages claimed firsts
search_stored notes most pages claimed firsts front has there =
    subst (λ (f : SearchFirsts). AreStored notes most pages claimed f) there.are_first
    (subst (λ (n : ℕ). AreStored n most pages claimed (search_firsts_of there.parts)) there.same
    (there_four most pages claimed there.parts there.runs front there.more there.are has.marks there.holds))
