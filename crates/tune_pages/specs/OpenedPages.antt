-- How pages are made and opened.
use Rattle.std.specs.Prelude.{◌≡◌, ℕ, ◌<◌, List, [], ◌∷◌, Bool, true, false, replicate}
use Rattle.std.specs.Prelude.{Option, Some, Result, Ok, Err}
use Rattle.tune_disk.specs.Disk.{DiskState}
use Rattle.tune_disk.specs.Stops.{LeavesOnly}
use Rattle.tune_journal.specs.Image.{StandsFor}
use Rattle.tune_journal.specs.Refusal.{IsRefusedFor, IsUnmadeFor}
use Rattle.tune_journal.specs.declared.open_fault.OpenFault.{OpenFault}
use Rattle.tune_journal.specs.declared.open_fault.OpenFault.TheVariants.{NotArchive, Damaged}
use Rattle.tune_journal.specs.declared.open_fault.OpenFault.TheVariants.{NotEmpty, OutOfMemory}
use Rattle.tune_journal.specs.declared.open_fault.OpenFault.TheVariants.{Device}
use Rattle.tune_journal.specs.declared.open_fault.Refused.{Refused}
use Rattle.tune_pages.specs.Claims.{Claims}
use Rattle.tune_pages.specs.Kept.{Kept}
use Rattle.tune_pages.specs.Stand.{marked}

-- marks of n pages, of which the root alone is in use
abbrev pub only_root : ℕ → List Bool
only_root n = marked true (0 ∷ []) (replicate n false)

-- The disk that a call answers, in pages or on its own.
abbrev pub disk_of_pages : {D : Type 0} → Result (Kept D) (Refused D) → Option D
disk_of_pages (Ok pages) = pages.disk
disk_of_pages (Err refused) = Some refused.disk

-- the same of `open`
abbrev pub disk_of_claims : {D : Type 0} → Result (Claims D) (Refused D) → D
disk_of_claims (Ok opening) = opening.disk
disk_of_claims (Err refused) = refused.disk

-- A stop over `new` leaves the pages that a read of `old` would have given.
pub record LeavesSame (old new : DiskState) : Type 0 where
  pub pages : List (List ℕ)
  pub stood : StandsFor pages old.seen
  pub rest : LeavesOnly new.now (StandsFor pages)

-- Opening is refused as a journal is; and for want of memory, where the file stands for pages.
abbrev pub IsUnopenedFor : OpenFault → DiskState → DiskState → Type 0
IsUnopenedFor OutOfMemory old new = LeavesSame old new
IsUnopenedFor NotArchive old new = IsRefusedFor NotArchive old new
IsUnopenedFor Damaged old new = IsRefusedFor Damaged old new
IsUnopenedFor NotEmpty old new = ⊥
IsUnopenedFor Device old new = Unit {0}

-- Making is refused as that of a journal is; for want of memory nothing was done.
abbrev pub IsUnmadePagesFor : OpenFault → DiskState → DiskState → Type 0
IsUnmadePagesFor OutOfMemory old new = new ≡ old
IsUnmadePagesFor NotEmpty old new = IsUnmadeFor NotEmpty old new
IsUnmadePagesFor Device old new = Unit {0}
IsUnmadePagesFor NotArchive old new = ⊥
IsUnmadePagesFor Damaged old new = ⊥

-- what opening may answer, whatever the disk does
abbrev pub IsPagesOpenReason : OpenFault → Type 0
IsPagesOpenReason NotArchive = Unit {0}
IsPagesOpenReason Damaged = Unit {0}
IsPagesOpenReason Device = Unit {0}
IsPagesOpenReason OutOfMemory = Unit {0}
IsPagesOpenReason NotEmpty = ⊥

-- and what making may
abbrev pub IsPagesMakeReason : OpenFault → Type 0
IsPagesMakeReason NotEmpty = Unit {0}
IsPagesMakeReason Device = Unit {0}
IsPagesMakeReason OutOfMemory = Unit {0}
IsPagesMakeReason NotArchive = ⊥
IsPagesMakeReason Damaged = ⊥

-- `Damaged` is answered only where more pages stand there than there may be.
abbrev pub IsUndoneFor : OpenFault → ℕ → ℕ → Type 0
IsUndoneFor Damaged limit count = limit < count
IsUndoneFor OutOfMemory limit count = Unit {0}
IsUndoneFor NotArchive limit count = ⊥
IsUndoneFor NotEmpty limit count = ⊥
IsUndoneFor Device limit count = ⊥
