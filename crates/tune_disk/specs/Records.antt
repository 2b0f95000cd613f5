-- What a disk in memory keeps of its writes and syncs, and what it stands for.
use Rattle.std.specs.Prelude.{ℕ, List, [], ◌∷◌, length}
use Rattle.tune_disk.specs.ByteWrites.{put}
use Rattle.tune_disk.specs.Disk.{DiskState, fresh, touched, settled}
use Rattle.tune_disk.specs.declared.memory.Record.{Record}
use Rattle.tune_disk.specs.declared.memory.Record.TheVariants.{Write, Sync}

-- the state after what one record says
abbrev pub record_to : Record → DiskState → DiskState
record_to (Write at bytes) s = record {
  seen = put at bytes.items s.seen;
  now = touched at (length bytes.items) s.now;
  past = s.now ∷ s.past;
}
record_to Sync s = record { seen = s.seen; now = settled s.seen; past = s.now ∷ s.past }

-- and after all of them, the oldest first
abbrev pub replayed : List Record → DiskState → DiskState
replayed [] s = s
replayed (one ∷ more) s = replayed more (record_to one s)

-- what a disk in memory stands for: its first content, and what was done to it since
abbrev pub state_of_records : List ℕ → List Record → DiskState
state_of_records first records = replayed records (fresh first)
