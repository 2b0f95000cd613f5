-- What a `MemoryDisk` shows, and the files that it makes as a stop may leave them.
use Rattle.std.specs.Prelude.{◌≡◌, ℕ, ◌<◌, List, length, slice_index}
use Rattle.tune_disk.specs.Disk.{DiskState, Untouched}
use Rattle.tune_disk.specs.Records.{state_of_records}
use Rattle.tune_disk.specs.declared.memory.MemoryDisk.{MemoryDisk}

-- its first content after all its writes and syncs
abbrev pub memory_state : MemoryDisk → DiskState
memory_state disk = state_of_records disk.first.items disk.records.items

-- how often it found no memory
abbrev pub memory_failures : MemoryDisk → ℕ
memory_failures disk = disk.failed

-- This offset is within what the last sync left, and has not been written since.
abbrev pub IsStableAt : DiskState → ℕ → Type 0
IsStableAt s i = (i < length s.now.stable) × Untouched s.now.written i

-- This file is as long as the present content. It has the stable bytes where nothing was written
-- since the last sync, and one byte everywhere else.
pub record IsFilled (byte : ℕ) (s : DiskState) (file : List ℕ) : Type 0 where
  pub long : length file ≡ length s.seen
  pub stable : (i : ℕ) → IsStableAt s i → slice_index file i ≡ slice_index s.now.stable i
  pub filled : (i : ℕ) → i < length file → (IsStableAt s i → ⊥) → slice_index file i ≡ byte
