-- What contracts see of an archive in a file, and which state it stands for.
use Rattle.std.specs.Prelude.{◌≡◌, ◌⊎◌, ℕ, List, Bool, false, Option}
use Rattle.tune_disk.specs.Disk.{DiskState}
use Rattle.tune_disk.specs.Stops.{LeavesOnly}
use Rattle.tune_pages.specs.Kept.{Kept, HonestAt, state_at}
use Rattle.tune_store.specs.State.{State, IsState}
use Rattle.tune_format.specs.States.{Holds, state_in}
use Rattle.tune_contents.specs.declared.contents.Contents.{Contents}
use Rattle.tune_archive.specs.declared.archive.Fetched.{Fetched}

-- Its pages; what it keeps in memory of what they hold; the text that was read last, if any; and
-- whether an earlier call was answered that the device failed.
pub record Shelf (D : Type 0) : Type 0 where
  pub pages : Kept D
  pub contents : Contents
  pub fetched : Option Fetched
  pub closed : Bool

-- the state of a disk: what its present content is read as
abbrev pub state_on : {D : Type 0} → (D → DiskState) → Option D → State
state_on state disk = state_in (state_at state disk).seen

-- the state that an archive stands for is that of its disk
abbrev pub state_of : {D : Type 0} → (D → DiskState) → Shelf D → State
state_of state archive = state_on state archive.pages.disk

-- a file stands for one of two states
abbrev pub StandsForOneOf : State → State → List ℕ → Type 0
StandsForOneOf a b file = Holds file a ⊎ Holds file b

-- Where its disk is honest, its state is within the limits; and where no call failed, each file
-- that a stop leaves now stands for it.
pub record IsSound {D : Type 0} (honest : D → Type 0) (state : D → DiskState) (archive : Shelf D)
    : Type 0 where
  pub within : HonestAt honest archive.pages.disk → IsState (state_of state archive)
  pub rest : HonestAt honest archive.pages.disk → archive.closed ≡ false
      → LeavesOnly (state_at state archive.pages.disk).now
      (λ file. Holds file (state_of state archive))
