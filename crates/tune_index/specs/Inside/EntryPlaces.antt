-- Where an entry stands among entries, and in which leaf it belongs.
use Rattle.std.specs.Prelude.{◌≡◌, ◌⊎◌, ℕ, ◌+◌, ◌<◌, ◌≤◌, List, [], ◌∷◌, length}
use Rattle.std.specs.Prelude.{slice_index_or}
use Rattle.index_keys.specs.Entries.{Entry, rank}
use Rattle.tune_index.specs.Leaves.{slice_entry}

-- the place of a rank in a list: smaller ranks before it, and no smaller one from it on
pub record IsPlace (r : ℕ) (es : List Entry) (i : ℕ) : Type 0 where
  pub in_range : i ≤ length es
  pub smaller_before : (k : ℕ) (d : Entry) → k < i → rank (slice_index_or es k d) < r
  pub others_after : (k : ℕ) (d : Entry) → i ≤ k → k < length es
      → r ≤ rank (slice_index_or es k d)

-- all of them stand before this rank
abbrev pub AllBelow : ℕ → List Entry → Type 0
AllBelow r [] = Unit {0}
AllBelow r (e ∷ es) = (rank e < r) × AllBelow r es

-- The leaf at the place is the one for an entry: it begins no later, or it is the first one, and
-- the next one begins after it.
pub record BelongsTo (e : Entry) (heads : List Entry) (place : ℕ) : Type 0 where
  pub from : (place ≡ 0) ⊎ (rank (slice_entry heads place) ≤ rank e)
  pub to : place + 1 < length heads → rank e < rank (slice_entry heads (place + 1))
