-- Which tunes a store looks at where a query is asked.
use Rattle.std.specs.Prelude.{◌≡◌, ◌↔◌, ℕ, ◌+◌, ◌<◌, ◌≤◌, List, [], ◌∷◌, length, slice_index_or}
use Rattle.std.specs.Prelude.{true, ⊤}
use Rattle.std.specs.List.{Contains}
use Rattle.tune_queries.specs.Queries.{finds}
use Rattle.tune_queries.specs.declared.sought.Sought.{Sought}
use Rattle.tune_store.specs.declared.tune.Tune.{Tune}
use Rattle.tune_store.specs.declared.catalog.Label.{Label}

-- places in a list of so many tunes, each above the one before it, from this one on
abbrev pub PlacesRise : ℕ → ℕ → List ℕ → Type 0
PlacesRise low count [] = ⊤
PlacesRise low count (place ∷ places) =
    (low ≤ place) × (place < count) × PlacesRise (place + 1) count places

-- among these places is that of each tune that a query finds, by so many notes
abbrev pub HoldsFound : ℕ → Sought → List Tune → List ℕ → Type 0
HoldsFound notes sought tunes places = (place : ℕ) (d : Tune) → place < length tunes
    → finds notes sought (slice_index_or tunes place d).text ≡ true → Contains places place

-- of the places of these labels, those of the labels that have one of these numbers are among these
-- places, and no other
abbrev pub ArePlacesOf : List ℕ → List Label → List ℕ → Type 0
ArePlacesOf numbers labels places = (place : ℕ) (d : Label) → place < length labels
    → Contains places place ↔ Contains numbers (slice_index_or labels place d).number
