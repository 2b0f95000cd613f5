-- The parts of making a file.
use Rattle.std.specs.Prelude.{◌≡◌, ℕ, List, length, slice_index}
use Rattle.tune_disk.specs.Disk.{DiskState, settled}
use Rattle.tune_journal.specs.Image.{window, gate_of, count_of}
use Rattle.tune_journal.specs.FileOffsets.{block_bytes, pages_offset, least_length}

-- all but the magic stands there
pub record IsLaid (first file : List ℕ) : Type 0 where
  pub gate : gate_of file ≡ 0
  pub count : count_of file ≡ 1
  pub page : window pages_offset block_bytes file ≡ first
  pub long : length file ≡ least_length

-- a first block of zeros, all of it on the disk
pub record IsCleared (s : DiskState) : Type 0 where
  pub settled : s.now ≡ settled s.seen
  pub long : length s.seen ≡ block_bytes
  pub zero : slice_index s.seen 0 ≡ 0
