-- How an archive is made and opened.
use Rattle.std.specs.Prelude.{◌≡◌, ◌≤◌, ◌⊎◌, ℕ, List, ⊤, Option, Some, Result, Ok, Err, length}
use Rattle.tune_disk.specs.Disk.{DiskState}
use Rattle.tune_disk.specs.Stops.{LeavesOnly, SinceThen}
use Rattle.tune_journal.specs.Image.{StandsForNone, magic_of, gate_of}
use Rattle.tune_journal.specs.FileOffsets.{magic, magic_bytes, gate_open}
use Rattle.tune_journal.specs.Refusal.{IsRefusedFor, IsSynced}
use Rattle.tune_journal.specs.declared.open_fault.OpenFault.{OpenFault}
use Rattle.tune_journal.specs.declared.open_fault.OpenFault.TheVariants.{NotArchive, Damaged}
use Rattle.tune_journal.specs.declared.open_fault.OpenFault.TheVariants.{NotEmpty, OutOfMemory}
use Rattle.tune_journal.specs.declared.open_fault.OpenFault.TheVariants.{Device}
use Rattle.tune_journal.specs.declared.open_fault.Refused.{Refused}
use Rattle.tune_pages.specs.OpenedPages.{LeavesSame}
use Rattle.tune_store.specs.State.{State, empty_of}
use Rattle.tune_store.specs.declared.layout.Layout.TheVariants.{Two}
use Rattle.tune_format.specs.States.{Holds}
use Rattle.tune_archive.specs.Shelf.{Shelf, StandsForOneOf}

-- the disk that a call answers, in an archive or on its own
abbrev pub disk_left_of : {D : Type 0} → Result (Shelf D) (Refused D) → Option D
disk_left_of (Ok archive) = archive.pages.disk
disk_left_of (Err refused) = Some refused.disk

-- no archive, or an empty one
abbrev pub StandsForNoneOrEmpty : List ℕ → Type 0
StandsForNoneOrEmpty file = StandsForNone file ⊎ Holds file (empty_of Two)

-- Where each file that a stop may leave at first stands for one of two states, so does each since
-- then.
abbrev pub KeepsStates : DiskState → DiskState → Type 0
KeepsStates old new = (a b : State) → LeavesOnly old.now (StandsForOneOf a b)
    → SinceThen old new (StandsForOneOf a b)

-- The file begins as an archive does, and stands for no state. The disk was synced, and nothing
-- else; or its gate was open, and a stop now leaves the same pages.
pub record IsDamagedArchive (old new : DiskState) : Type 0 where
  pub magic : magic_of old.seen ≡ magic
  pub long : magic_bytes ≤ length old.seen
  pub stateless : (state : State) → ¬ Holds old.seen state
  pub rest : IsSynced old new ⊎ ((gate_of old.seen ≡ gate_open) × LeavesSame old new)

-- Where the file is no archive, nothing was written; where it is damaged, or out of memory, no page
-- changed.
abbrev pub IsUnopenedArchiveFor : OpenFault → DiskState → DiskState → Type 0
IsUnopenedArchiveFor NotArchive old new = IsRefusedFor NotArchive old new
IsUnopenedArchiveFor Damaged old new = IsDamagedArchive old new
IsUnopenedArchiveFor NotEmpty old new = ⊥
IsUnopenedArchiveFor OutOfMemory old new = LeavesSame old new
IsUnopenedArchiveFor Device old new = ⊤
