-- What a stop may leave over calls of a journal.
use Rattle.std.specs.Prelude.{◌⊎◌, ℕ, List}
use Rattle.tune_disk.specs.Disk.{DiskState, MayLeave}
use Rattle.tune_disk.specs.Stops.{SinceThen, LeavesOnly}
use Rattle.tune_journal.specs.Image.{StandsFor, StandsForEither}

-- A stop over this disk leaves these pages alone, if the disk is honest.
abbrev pub LeavesPages : {D : Type 0} → (D → Type 0) → (D → DiskState) → D → List (List ℕ) → Type 0
LeavesPages honest state disk pages = honest disk → LeavesOnly (state disk).now (StandsFor pages)

-- Where each file that a stop may leave at first stands for one of two lists of pages, so does each
-- since then.
abbrev pub KeepsEither : DiskState → DiskState → Type 0
KeepsEither old new = (a b : List (List ℕ)) → LeavesOnly old.now (StandsForEither a b)
    → SinceThen old new (StandsForEither a b)

-- A stop might have left this file at first, or it stands for the pages that a read would have
-- given then.
abbrev pub LeftOrSame : DiskState → List ℕ → Type 0
LeftOrSame old file = MayLeave old.now file
    ⊎ ((pages : List (List ℕ)) × StandsFor pages old.seen × StandsFor pages file)
