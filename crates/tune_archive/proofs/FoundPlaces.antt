-- The tunes that a query finds are at the places that the search indexes give.
use Rattle.std.proofs.Common.{◌≡◌, ℕ, ◌<◌, List, ◌∷◌, length, get_or, true, false, sym, ◌∙◌, ap, subst, arith}
use Rattle.std.specs.List.{Contains}
use Rattle.std.proofs.lemmas.List.{get_or-map, length-map}
use Rattle.tune_disk.specs.Disk.{DiskState}
use Rattle.tune_pages.specs.Kept.{HonestAt}
use Rattle.tune_pages.specs.Stand.{Stand}
use Rattle.tune_parts.specs.Parts.{Part}
use Rattle.tune_queries.specs.Queries.{finds}
use Rattle.tune_queries.specs.declared.sought.Sought.{Sought}
use Rattle.tune_search.specs.IndexParts.{parts_of_index}
use Rattle.tune_search.specs.Searches.{HoldsSomeTexts, HoldsTexts, SearchParts}
use Rattle.tune_store.specs.Candidates.{ArePlacesOf, HoldsFound}
use Rattle.tune_store.specs.Labels.{labels_of}
use Rattle.tune_store.specs.Limits.{notes_of}
use Rattle.tune_store.specs.State.{State}
use Rattle.tune_store.specs.declared.catalog.Label.{Label}
use Rattle.tune_store.specs.declared.tune.Tune.{Tune}
use Rattle.tune_store.proofs.PlanLemmas.{label_at, labels_long, no_label}
use Rattle.tune_format.specs.Filed.{numbered_texts}
use Rattle.tune_contents.specs.Holds.{HoldsContents, labels_in}
use Rattle.tune_contents.specs.declared.contents.Contents.{Contents}
use Rattle.tune_archive.specs.Shelf.{Shelf, state_of}
use Rattle.tune_pages.specs.Edited.{stand_of}
use Rattle.tune_archive.specs.Inside.Holding.{IsShelf}
use Rattle.tune_archive.proofs.FetchLemmas.{labels_held}

-- THE INDEXES
-- they hold exactly the entries of the tunes, between the parts of the index of numbers and those of the set lists and the tunes
texts_held : (s : Stand) (contents : Contents) (state : State) (holds : HoldsContents s contents state)
    → HoldsTexts s contents.searches (parts_of_index holds.filed.numbers) (holds.filed.set_lists ∷ holds.filed.texts) holds.filed.searches
    (numbered_texts state.tunes)
texts_held s contents state holds = record {
  holds = holds.holds;
  titles = holds.searches.titles;
  rhythms = holds.searches.rhythms;
  scales = holds.searches.scales;
  incipits = holds.searches.incipits;
}

pub some_texts : (s : Stand) (contents : Contents) (state : State) → HoldsContents s contents state → HoldsSomeTexts s contents.searches
some_texts s contents state holds = (
  parts_of_index holds.filed.numbers,
  holds.filed.set_lists ∷ holds.filed.texts,
  holds.filed.searches,
  numbered_texts state.tunes,
  texts_held s contents state holds,
)

-- THE PLACES
-- among the texts of tunes with their numbers is that of the tune at a place
text_among : (tunes : List Tune) (place : ℕ) (d : Tune) → place < length tunes
    → Contains (numbered_texts tunes) ((get_or tunes place d).number, (get_or tunes place d).text)
text_among tunes place d l =
    let text_of : Tune → ℕ × List ℕ = λ tune. (tune.number, tune.text) in
    (place, omega (arith, l, length-map tunes text_of), get_or-map text_of tunes place d _ l)

-- where the numbers are those of the tunes that a query finds, and more, the places are theirs, and more
found_places : (notes : ℕ) (tunes : List Tune) (labels : List Label) (numbers places : List ℕ) (sought : Sought) → labels ≡ labels_of tunes
    → ArePlacesOf numbers labels places
    → ((tune : ℕ × List ℕ) → Contains (numbered_texts tunes) tune → finds notes sought tune.1 ≡ true → Contains numbers tune.0)
    → HoldsFound notes sought tunes places
found_places notes tunes labels numbers places sought same are held = λ place d l found.
    let tune = get_or tunes place d in
    let there = held (tune.number, tune.text) (text_among tunes place d l) found in
    let within : place < length labels = omega (arith, l, labels_long tunes labels (sym same)) in
    let named : tune.number ≡ (get_or labels place no_label).number =
    ap (λ (label : Label). label.number) (sym (label_at tunes labels place d no_label (sym same) within)) in
    (are place no_label within).1 (subst (Contains numbers) named there)

-- THE ARCHIVE
-- what a read of the search indexes gives holds each tune that a query finds
pub found_in_archive : {D : Type 0} (honest : D → Type 0) (state : D → DiskState) (archive : Shelf D) (sought : Sought) (numbers places : List ℕ)
    → IsShelf honest state archive.pages archive.contents archive.closed → archive.closed ≡ false → HonestAt honest archive.pages.disk
    → ((before after : List Part) (parts : SearchParts) (tunes : List (ℕ × List ℕ))
    → HoldsTexts (stand_of archive.pages) archive.contents.searches before after parts tunes → (tune : ℕ × List ℕ) → Contains tunes tune
    → finds archive.contents.searches.notes sought tune.1 ≡ true → Contains numbers tune.0)
    → ArePlacesOf numbers (labels_in archive.contents.rows.items) places
    → HoldsFound (notes_of archive.contents.layout) sought (state_of state archive).tunes places
found_in_archive honest state archive sought numbers places shelf is_open h held are =
    let holds = (shelf.holds h is_open).holds in
    let same : archive.contents.searches.notes ≡ notes_of archive.contents.layout = holds.notes ∙ sym (ap notes_of holds.layout) in
    let now = state_of state archive in
    subst (λ notes. HoldsFound notes sought now.tunes places) same
    (found_places archive.contents.searches.notes now.tunes (labels_in archive.contents.rows.items) numbers places sought
    (labels_held (stand_of archive.pages) archive.contents now holds) are
    (held _ _ _ _ (texts_held (stand_of archive.pages) archive.contents now holds)))
