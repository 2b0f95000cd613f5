-- How a list of steps is kept: in a row that has room for eleven, the rest of which is 0.
use Rattle.std.specs.Prelude.{◌≡◌, ℕ, ◌-◌, List, ◌++◌, length, take, replicate, ℤ, pos}

-- the steps between twelve notes
abbrev pub most_steps : ℕ
most_steps = 11

-- the steps, and zeros up to so many numbers
abbrev pub padded_steps : ℕ → List ℤ → List ℤ
padded_steps room steps = steps ++ replicate (room - length steps) (pos 0)

-- a row has so many steps, and zeros after them
pub record IsPaddedRow (count : ℕ) (row : List ℤ) : Type 0 where
  pub steps : length (take count row) ≡ count
  pub zeros : row ≡ padded_steps most_steps (take count row)
