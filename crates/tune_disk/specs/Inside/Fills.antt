-- What it is to fill what was written.
use Rattle.std.specs.Prelude.{◌≡◌, ℕ, ◌<◌, ◌≤◌, List, [], length, slice_index, get_or, take}
use Rattle.tune_disk.specs.Disk.{Untouched}
use Rattle.tune_disk.specs.Records.{state_of_records}
use Rattle.tune_disk.specs.declared.memory.Record.{Record}
use Rattle.tune_disk.specs.declared.memory.Record.TheVariants.{Sync}

-- The new file is the old one with this byte in these ranges, as far as they lie within it.
pub record Fills (byte : ℕ) (ranges : List (ℕ × ℕ)) (old new : List ℕ) : Type 0 where
  pub long : length new ≡ length old
  pub outside : (i : ℕ) → Untouched ranges i → slice_index new i ≡ slice_index old i
  pub inside : (i : ℕ) → i < length new → (Untouched ranges i → ⊥) → slice_index new i ≡ byte

-- After so many records nothing was written since a sync, and those behind them are no syncs.
pub record IsLastSync (synced : ℕ) (records : List Record) : Type 0 where
  pub settled : (first : List ℕ) → (state_of_records first (take synced records)).now.written ≡ []
  pub later : (i : ℕ) → synced ≤ i → i < length records → get_or records i Sync ≡ Sync → ⊥
