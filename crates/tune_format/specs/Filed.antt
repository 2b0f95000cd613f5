-- How tunes and set lists stand on pages.
use Rattle.std.specs.Prelude.{◌≡◌, ℕ, List, [], ◌∷◌, ◌++◌, length, map}
use Rattle.std.specs.List.{AllByRecursion}
use Rattle.tune_journal.specs.Pages.{page_at}
use Rattle.tune_parts.specs.Parts.{Part, AreParts}
use Rattle.tune_parts.specs.Parts.PartKind.{chain}
use Rattle.tune_search.specs.IndexParts.{HoldsIndex, IndexParts, parts_of_index}
use Rattle.tune_search.specs.Searches.{SearchParts, parts_of_search, key_bytes}
use Rattle.tune_sets.specs.SetBytes.{written_sets}
use Rattle.tune_sets.specs.declared.set_lists.TuneSet.{TuneSet}
use Rattle.tune_store.specs.Limits.{notes_of}
use Rattle.tune_store.specs.declared.layout.Layout.{Layout}
use Rattle.tune_store.specs.declared.tune.Tune.{Tune}
use Rattle.tune_format.specs.Searched.{AreSearchIndexes}
use Rattle.tune_format.specs.Written.{IsRoot, number_entries, stored_tune}
use Rattle.tune_format.specs.declared.root.Firsts.{Firsts}
use Rattle.tune_format.specs.declared.rows.Row.{Row}

-- TUNES
-- a tune, and where its chain begins
abbrev pub row_of_tune : Tune → Part → Row
row_of_tune tune part =
    record {
      number = tune.number;
      revision = tune.revision;
      first = part.first;
      length = length tune.text;
    }

-- the rows of tunes that stand in these parts, one after another
abbrev pub rows_of_tunes : List Tune → List Part → List Row
rows_of_tunes [] parts = []
rows_of_tunes (tune ∷ tunes) [] = []
rows_of_tunes (tune ∷ tunes) (part ∷ parts) = row_of_tune tune part ∷ rows_of_tunes tunes parts

-- each of these parts is a chain
abbrev pub AreChains : List Part → Type 0
AreChains parts = AllByRecursion (λ part. part.kind ≡ chain) parts

-- Each of these parts is a chain that holds its tune, and there is one for each.
pub record HoldTunes (parts : List Part) (tunes : List Tune) : Type 0 where
  pub are_chains : AreChains parts
  pub hold : map (λ part. part.bytes) parts ≡ map stored_tune tunes

-- the texts of tunes, with their numbers
abbrev pub numbered_texts : List Tune → List (ℕ × List ℕ)
numbered_texts tunes = map (λ tune. (tune.number, tune.text)) tunes

-- ALL
-- where the lists of the indexes and the set lists begin
abbrev pub firsts_of : IndexParts → SearchParts → Part → Firsts
firsts_of numbers searches set_lists = record {
  numbers = numbers.list.first;
  searches = record {
    titles = searches.titles.list.first;
    rhythms = searches.rhythms.list.first;
    scales = searches.scales.list.first;
    incipits = searches.incipits.list.first;
  };
  sets = set_lists.first;
}

-- the parts of an archive: those of the index of numbers, of the search indexes, the set lists,
-- and the tunes
abbrev pub archive_parts : IndexParts → SearchParts → Part → List Part → List Part
archive_parts numbers searches set_lists texts =
    parts_of_index numbers ++ (parts_of_search searches ++ set_lists ∷ texts)

-- The pages hold the tunes and the sets: the root says where the lists of the indexes and the set
-- lists begin; the index of numbers, where the chain of each tune does; and the search indexes
-- hold exactly the entries of the tunes.
pub record Filed (layout : Layout) (pages : List (List ℕ)) (tunes : List Tune)
    (sets : List TuneSet) : Type 0 where
  pub numbers : IndexParts
  pub searches : SearchParts
  pub set_lists : Part
  pub texts : List Part
  pub parts : AreParts pages (archive_parts numbers searches set_lists texts)
  pub root : IsRoot layout (page_at pages 0) (firsts_of numbers searches set_lists)
  pub are_numbers : HoldsIndex key_bytes numbers (number_entries (rows_of_tunes tunes texts))
  pub are_searches : AreSearchIndexes (notes_of layout) (numbered_texts tunes) searches
  pub sets_are_chain : set_lists.kind ≡ chain
  pub are_sets : set_lists.bytes ≡ written_sets sets
  pub are_tunes : HoldTunes texts tunes

-- One of the tunes, and the part that holds it, with those before them and those behind.
pub record HoldsTuneAt (texts : List Part) (tunes : List Tune) (place : ℕ) : Type 0 where
  pub before : List Part
  pub part : Part
  pub after : List Part
  pub front : List Tune
  pub tune : Tune
  pub back : List Tune
  pub are_texts : texts ≡ before ++ part ∷ after
  pub are_tunes : tunes ≡ front ++ tune ∷ back
  pub is_place : length front ≡ place
  pub holds_front : HoldTunes before front
  pub is_chain : part.kind ≡ chain
  pub holds : part.bytes ≡ stored_tune tune
  pub holds_back : HoldTunes after back
