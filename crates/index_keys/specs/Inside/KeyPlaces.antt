-- Where a key stands among keys.
use Rattle.std.specs.Prelude.{ℕ, ◌<◌, ◌≤◌, List, length, slice_index_or}

-- the place of a key in a list: smaller keys before it, and no smaller one from it on
pub record IsKeyPlace (key : ℕ) (keys : List ℕ) (place : ℕ) : Type 0 where
  pub in_range : place ≤ length keys
  pub smaller_before : (k : ℕ) (d : ℕ) → k < place → slice_index_or keys k d < key
  pub others_after : (k : ℕ) (d : ℕ) → place ≤ k → k < length keys
      → key ≤ slice_index_or keys k d
