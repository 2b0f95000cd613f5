-- Pages that are being opened, as contracts see them.
use Rattle.std.specs.Prelude.{ℕ, List, Bool}

-- the disk, the pages that it holds, and which of them were claimed
pub record Claims (D : Type 0) : Type 0 where
  pub disk : D
  pub pages : List (List ℕ)
  pub claimed : List Bool
