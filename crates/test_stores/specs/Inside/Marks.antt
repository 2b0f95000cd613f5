-- A disk of which a stop leaves a mark.
use Rattle.std.specs.Prelude.{ℕ, ◌≤◌, List, length}
use Rattle.tune_disk.specs.Disk.{DiskState}
use Rattle.tune_disk.specs.Stops.{SinceThen}

-- where a stop left marks alone, this is one
abbrev pub StaysMark : DiskState → List ℕ → Type 0
StaysMark old file = old.now.reach ≤ 1 → length file ≤ 1

-- From one state of a disk to another stops leave marks, where they did.
pub record LeavesMarks (old new : DiskState) : Type 0 where
  pub since : SinceThen old new (StaysMark old)
  pub now : old.now.reach ≤ 1 → new.now.reach ≤ 1
