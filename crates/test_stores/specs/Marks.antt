-- What a stop leaves of a store that keeps a mark on a disk.
use Rattle.std.specs.Prelude.{ℕ, ◌≤◌, List, length}
use Rattle.tune_disk.specs.Disk.{DiskState}
use Rattle.tune_store.specs.State.{State, IsState}

-- the file is a mark of at most one byte, whatever the state is
abbrev pub IsMarkFile : List ℕ → State → Type 0
IsMarkFile file state = length file ≤ 1

-- a stop now leaves a mark, where the disk is honest, and the state is within the limits
pub record IsMarked (honest : Type 0) (disk : DiskState) (state : State) : Type 0 where
  pub mark : honest → disk.now.reach ≤ 1
  pub within : IsState state
