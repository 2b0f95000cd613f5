-- The pages of an index, one after another.
use Rattle.std.specs.Prelude.{◌≢◌, ℕ, ◌<◌, List, [], ◌∷◌, length, slice_index}
use Rattle.tune_pages.specs.Frame.{InUse}
use Rattle.tune_pages.specs.Stand.{Stand}

-- no page stands twice, and each is in use
abbrev pub HasEachPage : Stand → List ℕ → Type 0
HasEachPage all [] = Unit {0}
HasEachPage all (page ∷ pages) =
    InUse all page × ((k : ℕ) → k < length pages → slice_index pages k ≢ page)
    × HasEachPage all pages
