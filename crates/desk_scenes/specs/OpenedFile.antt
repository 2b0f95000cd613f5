-- An archive on a disk that was opened.
use Rattle.std.specs.Prelude.{◌≡◌, ℕ, false, List, [], ◌∷◌, ◌++◌, Ok, length}
use Rattle.tune_disk.specs.Stops.{SinceThen}
use Rattle.tune_disk.specs.declared.disk.Disk as disk
use Rattle.tune_disk.specs.declared.file.Access.{Access}
use Rattle.tune_disk.specs.declared.file.Access.TheVariants.{Read}
use Rattle.tune_journal.specs.Moments.{LeftOrSame}
use Rattle.tune_pages.specs.Kept.{HonestAt, state_at}
use Rattle.tune_store.specs.Limits.{layout_number}
use Rattle.tune_store.specs.State.{State}
use Rattle.tune_format.specs.States.{Holds}
use Rattle.tune_archive.specs.declared.archive.Counts.{Counts}
use Rattle.tune_archive.specs.Shelf.{Shelf, state_of}
use Rattle.tune_desk.specs.DeskDeeds.{DeskDeed, opened}
use Rattle.desk_scenes.specs.Visits.{Comes}

-- The archive has the state that the disk held; meanwhile a stop leaves what it might have left
-- before, or the same pages as the disk showed.
pub record IsArchiveOf {D : Type 0} (disks : disk.Ghosts D) (old : D) (archive : Shelf D) : Type 0
  where
    pub honest : HonestAt disks.honest archive.pages.disk → disks.honest old
    pub held : HonestAt disks.honest archive.pages.disk
        → Holds (disks.state old).seen (state_of disks.state archive)
    pub leaves : HonestAt disks.honest archive.pages.disk
        → SinceThen (disks.state old) (state_at disks.state archive.pages.disk)
        (LeftOrSame (disks.state old))
    pub is_open : archive.closed ≡ false

-- FILE was opened, and has this archive.
pub record Opens {D : Type 0} (disks : disk.Ghosts D) (file : List ℕ) (access : Access)
    (archive : Shelf D) (was now : List (DeskDeed D)) : Type 0 where
  pub old : D
  pub is : IsArchiveOf disks old archive
  pub deeds : now ≡ was ++ opened file access (Ok old) ∷ []

-- FILE was opened to read alone, and has this archive.
pub record OpensToRead {D : Type 0} (disks : disk.Ghosts D) (file : List ℕ) (archive : Shelf D)
    (was now : List (DeskDeed D)) : Type 0 where
  pub before : List (DeskDeed D)
  pub mid : List (DeskDeed D)
  pub comes : Comes disks file before
  pub came : mid ≡ was ++ before
  pub opens : Opens disks file Read archive mid now

-- These numbers are those of a state.
pub record CountsOf (counts : Counts) (state : State) : Type 0 where
  pub layout : counts.layout ≡ layout_number state.layout
  pub tunes : counts.tunes ≡ length state.tunes
  pub sets : counts.sets ≡ length state.sets
