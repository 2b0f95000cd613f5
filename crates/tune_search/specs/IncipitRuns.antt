-- The incipits of tunes by twelve notes: what comes into the search indexes where they come to keep
-- incipits so (own profile).
use Rattle.std.specs.Prelude.{◌≡◌, ℕ, ◌+◌, ◌≤◌, ◌∷◌, [], List}
use Rattle.index_keys.specs.Entries.{AllFit, Entry}
use Rattle.tune_incipit.specs.ScaleAndIncipitKeys.{incipit_keys}
use Rattle.tune_pages.specs.Stand.{Stand}
use Rattle.tune_parts.specs.Parts.{Part}
use Rattle.tune_search.specs.Inside.TextEntries.{entries_of_tunes}
use Rattle.tune_search.specs.Searches.{HoldsTexts, IsRunOf, SearchParts, SearchShape}
use Rattle.tune_search.specs.Searches.{incipit_bytes}

-- the numbers of tunes rise, from this one on
abbrev pub NumbersRise : ℕ → List (ℕ × List ℕ) → Type 0
NumbersRise low [] = Unit {0}
NumbersRise low (tune ∷ tunes) = (low ≤ tune.0) × NumbersRise (tune.0 + 1) tunes

-- The entries of the tunes, as these came one after another.
pub record GathersIncipits (tunes : List (ℕ × List ℕ)) (run : List Entry) : Type 0 where
  pub added : run ≡ entries_of_tunes (incipit_keys 12) tunes
  pub fit : AllFit (incipit_bytes 12) run

-- The run of the tunes by twelve notes.
abbrev pub AreIncipitsOf : List (ℕ × List ℕ) → List Entry → Type 0
AreIncipitsOf tunes run = IsRunOf (incipit_bytes 12) (incipit_keys 12) tunes run

-- The search indexes hold tunes whose incipits these are.
abbrev pub HoldsIncipits : Stand → SearchShape → List Entry → Type 0
HoldsIncipits s shape run = (before : List Part) × (after : List Part) × (parts : SearchParts)
    × (tunes : List (ℕ × List ℕ)) × AreIncipitsOf tunes run
    × HoldsTexts s shape before after parts tunes
