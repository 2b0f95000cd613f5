-- Copies of disks.
use Rattle.std.specs.Prelude.{◌≡◌, ℕ, List}
use Rattle.sha2.specs.Sha256.{sha256}
use Rattle.tune_disk.specs.Disk.{DiskState, settled}
use Rattle.tune_disk.specs.Stops.{LeavesOnly}
use Rattle.tune_store.specs.State.{State}
use Rattle.tune_format.specs.States.{Holds}
use Rattle.desk_scenes.specs.OpenedFile.{CountsOf}
use Rattle.desk_copies.specs.declared.archive_copies.Copied.{Copied}

-- A disk shows what the other shows, a stop leaves just that, and this is the sum of it.
pub record IsCopied (from to : DiskState) (sum : List ℕ) : Type 0 where
  pub shown : to.seen ≡ from.seen
  pub kept : to.now ≡ settled from.seen
  pub summed : sum ≡ sha256 from.seen

-- A disk was only looked at: where it is honest it was, and is as it was.
pub record IsLookedAt {D : Type 0} (honest : D → Type 0) (state : D → DiskState) (old new : D)
    : Type 0 where
  pub was_honest : honest new → honest old
  pub same : honest new → state new ≡ state old

-- ARCHIVES
-- An archive was copied: the copy holds the state that the archive holds, and so does each file
-- that
-- a stop leaves of it. How much that is was told, and the sum of the bytes, which is that of both.
pub record CopiesArchive (from to : DiskState) (copied : Copied) : Type 0 where
  pub state : State
  pub held : Holds from.seen state
  pub kept : LeavesOnly to.now (λ left. Holds left state)
  pub counts : CountsOf copied.counts state
  pub summed : copied.sum ≡ sha256 from.seen
  pub same : copied.sum ≡ sha256 to.seen
