-- What the calls of a commit do to a disk.
use Rattle.std.specs.Prelude.{◌≡◌, ◌⊎◌, ℕ, ◌+◌, ◌*◌, ◌<◌, ◌≤◌, List, [], ◌∷◌, ◌++◌, length, Result}
use Rattle.std.specs.Prelude.{MatchResult, OnOk}
use Rattle.byteorder.specs.Endian.{big_bytes}
use Rattle.tune_disk.specs.Disk.{DiskState, GoesTo, settled, CountsFailure}
use Rattle.tune_disk.specs.Inside.Spares.{SparesOffsets}
use Rattle.tune_journal.specs.ChangeList.{change_at}
use Rattle.tune_journal.specs.Image.{window, page_offset, entry_offset}
use Rattle.tune_journal.specs.FileOffsets.{block_bytes, descriptor_offset, descriptor_bytes}
use Rattle.tune_journal.specs.FileOffsets.{count_offset, log_entry_bytes}

-- writes that spare what is kept, and then a sync
pub record Settles (Kept : ℕ → Type 0) (old new : DiskState) : Type 0 where
  pub mid : DiskState
  pub spares : SparesOffsets Kept old mid
  pub seen : new.seen ≡ mid.seen
  pub goes : GoesTo (settled mid.seen) mid new

-- the same of an answer: where it failed there was no sync
abbrev pub WritesAndSyncs : {T E : Type 0} → (ℕ → Type 0) → Result T E → DiskState → DiskState
    → Type 0
WritesAndSyncs Kept result old new =
    MatchResult result (λ _. Settles Kept old new) (λ _. SparesOffsets Kept old new)

-- an offset outside the log behind m pages, and outside its descriptor
abbrev pub IsNoLog : ℕ → ℕ → Type 0
IsNoLog m i =
    (i < descriptor_offset)
    ⊎ ((descriptor_offset + descriptor_bytes ≤ i) × (i < entry_offset m 0))

-- an offset outside these n bytes
abbrev pub IsOutside : ℕ → ℕ → ℕ → Type 0
IsOutside at n i = (i < at) ⊎ (at + n ≤ i)

-- an offset in no page that these entries name
abbrev pub IsInNoPage : List (ℕ × List ℕ) → ℕ → Type 0
IsInNoPage [] i = Unit {0}
IsInNoPage (entry ∷ log) i =
    ((i < page_offset entry.0) ⊎ (page_offset entry.0 + block_bytes ≤ i)) × IsInNoPage log i

-- the descriptor of k entries behind m pages stands there
abbrev pub HoldsDescriptor : ℕ → ℕ → List ℕ → Type 0
HoldsDescriptor m k file =
    (window descriptor_offset descriptor_bytes file ≡ big_bytes 4 m ++ big_bytes 4 k)
    × (descriptor_offset + descriptor_bytes ≤ length file)

-- an offset that neither an image nor the count is written to
abbrev pub KeepsBoth : List (ℕ × List ℕ) → ℕ → Type 0
KeepsBoth log i = IsInNoPage log i × IsOutside count_offset 4 i

-- the first n of these entries stand there
abbrev pub HoldsLogEntries : ℕ → List (ℕ × List ℕ) → ℕ → List ℕ → Type 0
HoldsLogEntries at log n file = (k : ℕ) → k < n
    → (window (at + log_entry_bytes * k) log_entry_bytes file
    ≡ big_bytes 4 (change_at log k).0 ++ (change_at log k).1)
    × (at + log_entry_bytes * (k + 1) ≤ length file)

-- an entry, as it stands in the log
abbrev pub log_entry : ℕ → List ℕ → List ℕ
log_entry page image = big_bytes 4 page ++ image

-- What a call keeps that relies on an earlier answer of the disk: where that answer holds, and the
-- disk is honest, it fails just where a call of the disk does.
pub record CallsIf {S T E : Type 0} (honest : S → Type 0) (failures : S → ℕ)
    (result : Result T E) (old new : S) (Holds : Type 0) : Type 0 where
  pub was_honest : honest new → honest old
  pub ok : OnOk result (failures new ≡ failures old)
  pub counted : honest new → Holds → CountsFailure result (failures old) (failures new)
