-- Why a file is not opened.
use Rattle.std.specs.Prelude.{◌≡◌, ◌≢◌, ◌⊎◌, ℕ, ◌<◌, ◌≤◌, length}
use Rattle.tune_disk.specs.Disk.{DiskState, GoesTo, settled, CountsUp}
use Rattle.tune_journal.specs.Image.{StandsForNone, magic_of}
use Rattle.tune_journal.specs.FileOffsets.{magic, magic_bytes}
use Rattle.tune_journal.specs.declared.open_fault.OpenFault.{OpenFault}
use Rattle.tune_journal.specs.declared.open_fault.OpenFault.TheVariants.{NotArchive, Damaged}
use Rattle.tune_journal.specs.declared.open_fault.OpenFault.TheVariants.{NotEmpty, OutOfMemory}
use Rattle.tune_journal.specs.declared.open_fault.OpenFault.TheVariants.{Device}

-- a sync, and nothing else
pub record IsSynced (old new : DiskState) : Type 0 where
  pub seen : new.seen ≡ old.seen
  pub goes : GoesTo (settled old.seen) old new

-- Nothing was written: the disk was synced once, or not even that.
abbrev pub IsUnwritten : DiskState → DiskState → Type 0
IsUnwritten old new = (new ≡ old) ⊎ IsSynced old new

-- Where the file is at fault nothing was written.
abbrev pub IsRefusedFor : OpenFault → DiskState → DiskState → Type 0
IsRefusedFor NotArchive old new =
    IsSynced old new × (magic_bytes ≤ length old.seen → magic_of old.seen ≢ magic)
IsRefusedFor Damaged old new =
    IsSynced old new × (magic_of old.seen ≡ magic) × (magic_bytes ≤ length old.seen)
    × StandsForNone old.seen
IsRefusedFor NotEmpty old new = ⊥
IsRefusedFor OutOfMemory old new = ⊥
IsRefusedFor Device old new = Unit {0}

-- `Device` alone is answered where the disk failed, and wherever it did.
abbrev pub CountsFailureIf : OpenFault → ℕ → ℕ → Type 0
CountsFailureIf Device old new = CountsUp old new
CountsFailureIf NotArchive old new = new ≡ old
CountsFailureIf Damaged old new = new ≡ old
CountsFailureIf NotEmpty old new = new ≡ old
CountsFailureIf OutOfMemory old new = new ≡ old

-- The same, but that `Device` is answered without a failure too where the disk is not honest.
abbrev pub CountsFailureWhere : Type 0 → OpenFault → ℕ → ℕ → Type 0
CountsFailureWhere Honest Device old new = Honest → CountsUp old new
CountsFailureWhere Honest NotArchive old new = new ≡ old
CountsFailureWhere Honest Damaged old new = new ≡ old
CountsFailureWhere Honest NotEmpty old new = new ≡ old
CountsFailureWhere Honest OutOfMemory old new = new ≡ old

-- Why a journal is not made. On a disk with a byte nothing was written.
abbrev pub IsUnmadeFor : OpenFault → DiskState → DiskState → Type 0
IsUnmadeFor NotEmpty old new = IsSynced old new × (0 < length old.seen)
IsUnmadeFor Device old new = Unit {0}
IsUnmadeFor NotArchive old new = ⊥
IsUnmadeFor OutOfMemory old new = ⊥
IsUnmadeFor Damaged old new = ⊥

-- what opening may answer, whatever the disk does
abbrev pub IsOpenReason : OpenFault → Type 0
IsOpenReason NotArchive = Unit {0}
IsOpenReason Damaged = Unit {0}
IsOpenReason Device = Unit {0}
IsOpenReason NotEmpty = ⊥
IsOpenReason OutOfMemory = ⊥

-- and what making may
abbrev pub IsMakeReason : OpenFault → Type 0
IsMakeReason NotEmpty = Unit {0}
IsMakeReason Device = Unit {0}
IsMakeReason NotArchive = ⊥
IsMakeReason Damaged = ⊥
IsMakeReason OutOfMemory = ⊥
