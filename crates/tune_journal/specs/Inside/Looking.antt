-- What opening looks at.
use Rattle.std.specs.Prelude.{◌≡◌, ◌≢◌, ℕ, zero, suc, ◌+◌, ◌<◌, ◌≤◌, List, length}
use Rattle.tune_journal.specs.Image.{number, entry_offset, gate_of, count_of, new_count_of}
use Rattle.tune_journal.specs.Image.{IsHeaded, HasPageCount, HasLog, entry_count_of, StandsForNone}
use Rattle.tune_journal.specs.Image.{magic_of}
use Rattle.tune_journal.specs.FileOffsets.{magic, magic_bytes, gate_open, most_pages}
use Rattle.tune_journal.specs.declared.look.Found.{Found}
use Rattle.tune_journal.specs.declared.look.Found.TheVariants.{NotArchive, Damaged, Closed, Open}

-- entry i of a log names at least this page
abbrev pub least_of : ℕ → ℕ → List ℕ → ℕ
least_of m zero file = 0
least_of m (suc i) file = number (entry_offset m i) file + 1

-- the first k entries name pages below m, each above the last
abbrev pub Climbs : ℕ → ℕ → List ℕ → Type 0
Climbs m k file = (i : ℕ) → i < k
    → (least_of m i file ≤ number (entry_offset m i) file) × (number (entry_offset m i) file < m)

-- Entry i of the log behind m pages is within the file, and names a page below m and no lower than
-- this one.
pub record HasEntry (m i least : ℕ) (file : List ℕ) : Type 0 where
  pub long : entry_offset m (i + 1) ≤ length file
  pub climbs : least ≤ number (entry_offset m i) file
  pub below : number (entry_offset m i) file < m

-- These entries are all within the file, and name pages below m, each above the last.
pub record HasEntries (m k : ℕ) (file : List ℕ) : Type 0 where
  pub long : entry_offset m k ≤ length file
  pub climbs : Climbs m k file

-- what a look at a file found in it
abbrev pub Sees : Found → List ℕ → Type 0
Sees NotArchive file = magic_bytes ≤ length file → magic_of file ≢ magic
Sees Damaged file = (magic_of file ≡ magic) × (magic_bytes ≤ length file) × StandsForNone file
Sees (Closed n) file =
    IsHeaded file × (gate_of file ≢ gate_open) × (count_of file ≡ n) × HasPageCount n file
Sees (Open m k) file =
    IsHeaded file × (gate_of file ≡ gate_open) × (new_count_of file ≡ m) × (entry_count_of file ≡ k)
    × HasLog m k file

-- the same of a file whose gate is closed
abbrev pub SeesClosed : Found → List ℕ → Type 0
SeesClosed (Closed n) file = (count_of file ≡ n) × HasPageCount n file
SeesClosed Damaged file = HasPageCount (count_of file) file → ⊥
SeesClosed NotArchive file = ⊥
SeesClosed (Open m k) file = ⊥

-- and of one whose gate is open
abbrev pub SeesOpen : Found → List ℕ → Type 0
SeesOpen (Open m k) file = (new_count_of file ≡ m) × (entry_count_of file ≡ k) × HasLog m k file
SeesOpen Damaged file = HasLog (new_count_of file) (entry_count_of file) file → ⊥
SeesOpen NotArchive file = ⊥
SeesOpen (Closed n) file = ⊥

-- Numbers that may be used whatever the disk answered.
abbrev pub IsBounded : Found → Type 0
IsBounded (Closed n) = (1 ≤ n) × (n ≤ most_pages)
IsBounded (Open m k) = (1 ≤ k) × (m ≤ most_pages) × (k ≤ m)
IsBounded NotArchive = Unit {0}
IsBounded Damaged = Unit {0}
