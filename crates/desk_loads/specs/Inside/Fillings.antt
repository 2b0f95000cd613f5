-- What is told of an archive that was filled, before its disk is given back.
use Rattle.std.specs.Prelude.{◌≡◌, false}
use Rattle.tune_disk.specs.Disk.{Medium}
use Rattle.tune_disk.specs.Stops.{LeavesOnly}
use Rattle.tune_disk.specs.declared.disk.Disk as disk
use Rattle.tune_store.specs.State.{State}
use Rattle.tune_format.specs.States.{Holds}
use Rattle.tune_pages.specs.Kept.{HonestAt}
use Rattle.tune_archive.specs.Shelf.{Shelf, state_of}
use Rattle.tune_changes.specs.BroughtParts.{loaded_parts}
use Rattle.desk_scenes.specs.OpenedFile.{CountsOf}
use Rattle.desk_loads.specs.declared.filling.Filled.{Filled}

-- What a stop leaves of a disk holds this state; these are its numbers, and the parts of its load.
pub record ShowsState (state : State) (medium : Medium) (filled : Filled) : Type 0 where
  pub holds : LeavesOnly medium (λ left. Holds left state)
  pub counted : CountsOf filled.counts state
  pub parts : filled.parts.items ≡ loaded_parts state

-- So it is of an open archive, where this disk of it is honest.
pub record ShowsArchive {D : Type 0} (disks : disk.Ghosts D) (archive : Shelf D) (disk : D)
    (filled : Filled) : Type 0 where
  pub was_honest : disks.honest disk → HonestAt disks.honest archive.pages.disk
  pub shows : disks.honest disk → archive.closed ≡ false
      → ShowsState (state_of disks.state archive) (disks.state disk).now filled
