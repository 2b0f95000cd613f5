-- Pages that were read ahead, as bytes.
use Rattle.std.specs.Prelude.{◌≡◌, ℕ, ◌+◌, ◌-◌, ◌*◌, ◌<◌, ◌≤◌, List, [], length}
use Rattle.std.specs.Prelude.{Option, Some, None, refl}
use Rattle.std.specs.Global.{Vec}
use Rattle.std.specs.Coded.{Coded, code_by, coded×, coded_list, coded_ℕ}
use Rattle.tune_disk.specs.Disk.{DiskState}
use Rattle.tune_journal.specs.FileOffsets.{block_bytes}
use Rattle.tune_journal.specs.Image.{page_offset, window}

-- the first of them, how many they are, and their bytes, one page behind another
pub record AheadPages : Type 0 where
  pub first : ℕ
  pub count : ℕ
  pub bytes : List ℕ

abbrev pub ahead_code : Coded AheadPages
ahead_code =
    code_by (ℕ × (ℕ × List ℕ))
    (coded× coded_ℕ (coded× coded_ℕ (coded_list coded_ℕ)))
    (λ a. (a.first, (a.count, a.bytes)))
    (λ p. record { first = p.0; count = p.1.0; bytes = p.1.1 }) (λ _. refl)

-- the memory for a run; none before it is taken
abbrev pub buffer_in : Option (Vec ℕ) → List ℕ
buffer_in None = []
buffer_in (Some buffer) = buffer.items

-- it is for 32 pages
abbrev pub HasBuffer : Option (Vec ℕ) → Type 0
HasBuffer None = Unit {0}
HasBuffer (Some buffer) = length buffer.items ≡ 131072

-- There are none.
abbrev pub HasNone : AheadPages → Type 0
HasNone ahead = (ahead.count ≡ 0) × (ahead.bytes ≡ [])

-- They are pages of a list of n, and have the bytes that an honest disk has there now.
pub record IsAhead {D : Type 0} (honest : D → Type 0) (state : D → DiskState) (disk : D) (n : ℕ)
    (ahead : AheadPages) : Type 0 where
  pub within : 0 < ahead.count → ahead.first + ahead.count ≤ n
  pub shows : honest disk → ahead.bytes
      ≡ window (page_offset ahead.first) (block_bytes * ahead.count) (state disk).seen

-- This page is one of them, and has these bytes.
pub record HoldsPage (ahead : AheadPages) (page : ℕ) (bytes : List ℕ) : Type 0 where
  pub first : ahead.first ≤ page
  pub last : page < ahead.first + ahead.count
  pub is : bytes ≡ window (block_bytes * (page - ahead.first)) block_bytes ahead.bytes
  pub size : length bytes ≡ block_bytes
