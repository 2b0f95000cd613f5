-- A copy that is opened to check it.
use Rattle.std.specs.Prelude.{◌≡◌, ℕ, List}
use Rattle.sha2.specs.Sha256.{sha256}
use Rattle.tune_disk.specs.Disk.{DiskState}
use Rattle.tune_disk.specs.Stops.{LeavesOnly}
use Rattle.tune_store.specs.State.{State}
use Rattle.tune_format.specs.States.{Holds}
use Rattle.desk_scenes.specs.OpenedFile.{CountsOf}
use Rattle.desk_copies.specs.declared.archive_copies.Copied.{Copied}

-- It was opened with a state, which each file that a stop leaves holds then; and what it shows then
-- has this sum.
pub record ChecksCopy (old new : DiskState) (sum : List ℕ) (copied : Copied) : Type 0 where
  pub state : State
  pub held : Holds old.seen state
  pub kept : LeavesOnly new.now (λ left. Holds left state)
  pub counts : CountsOf copied.counts state
  pub summed : copied.sum ≡ sum
  pub same : sum ≡ sha256 new.seen
