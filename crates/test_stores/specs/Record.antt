-- A record of what a device has held: a file of one number in each entry.
use Rattle.std.specs.Prelude.{◌≡◌, ℕ, ◌-◌, ◌<◌, ◌≤◌, List, [], ◌∷◌, length, slice_index}
use Rattle.tune_store.specs.State.{State, IsState}

-- the place of the last entry
abbrev pub last_place : List ℕ → ℕ
last_place entries = length entries - 1

-- an entry from this place on is the one number of the file
pub record LeftSince (entries : List ℕ) (since : ℕ) (file : List ℕ) : Type 0 where
  pub place : ℕ
  pub from : since ≤ place
  pub within : place < length entries
  pub entry : file ≡ slice_index entries place ∷ []

-- the file is how many tunes the state has
abbrev pub IsOfCount : List ℕ → State → Type 0
IsOfCount file state = file ≡ length state.tunes ∷ []

-- the last entry is how many tunes the state has
abbrev pub EndsAtCount : List ℕ → State → Type 0
EndsAtCount entries state = slice_index entries (last_place entries) ≡ length state.tunes

-- a record that ends at a state within the limits
pub record IsRecorded (entries : List ℕ) (state : State) : Type 0 where
  pub ends : EndsAtCount entries state
  pub within : IsState state
