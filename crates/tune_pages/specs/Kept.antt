-- Pages as contracts see them.
use Rattle.std.specs.Prelude.{ℕ, List, [], Bool, Option, Some, None}
use Rattle.tune_disk.specs.Disk.{DiskState, fresh}

-- The disk, which is always there; the pages that it holds; which of them are in use; how many
-- there may be; and whether a call failed on the disk.
pub record Kept (D : Type 0) : Type 0 where
  pub disk : Option D
  pub pages : List (List ℕ)
  pub used : List Bool
  pub limit : ℕ
  pub closed : Bool

-- the disk that is held is honest
abbrev pub HonestAt : {D : Type 0} → (D → Type 0) → Option D → Type 0
HonestAt honest None = ⊥
HonestAt honest (Some disk) = honest disk

-- its state
abbrev pub state_at : {D : Type 0} → (D → DiskState) → Option D → DiskState
state_at state None = fresh []
state_at state (Some disk) = state disk

-- and how often a call of it failed
abbrev pub failures_at : {D : Type 0} → (D → ℕ) → Option D → ℕ
failures_at failures None = 0
failures_at failures (Some disk) = failures disk
