-- How a change of an archive is made on its pages.
use Rattle.std.specs.Prelude.{◌≡◌, ◌⊎◌, ◌≤◌, ℕ, Bool, true, false, length}
use Rattle.std.specs.Prelude.{Option, Result, MatchResult}
use Rattle.tune_disk.specs.Disk.{DiskState}
use Rattle.tune_disk.specs.Stops.{LeavesOnly, SinceThen}
use Rattle.tune_disk.specs.declared.disk.Disk as disk
use Rattle.tune_journal.specs.Image.{StandsFor, StandsForEither}
use Rattle.tune_pages.specs.Edited.{stand_of}
use Rattle.tune_pages.specs.Faults.{CountsFaultWhere}
use Rattle.tune_pages.specs.Kept.{Kept, HonestAt, state_at, failures_at}
use Rattle.tune_pages.specs.PageLooks.{SameKept}
use Rattle.tune_pages.specs.Stand.{Stand}
use Rattle.tune_pages.specs.declared.fault.Fault.{Fault}
use Rattle.tune_pages.specs.declared.fault.Fault.TheVariants.{FileFull, OutOfMemory, Device}
use Rattle.tune_pages.specs.declared.fault.Fault.TheVariants.{Closed}
use Rattle.tune_store.specs.Plans.{changed}
use Rattle.tune_store.specs.State.{State, IsState}
use Rattle.tune_store.specs.StoreStops.{HasFailed}
use Rattle.tune_store.specs.declared.command.Refusal.{Refusal}
use Rattle.tune_store.specs.declared.command.Refusal.TheVariants as refusal
use Rattle.tune_store.specs.declared.plans.Change.{Change}
use Rattle.tune_contents.specs.Holds.{HoldsContents, LaysMemory, LaysState, Memory}
use Rattle.tune_contents.specs.declared.contents.Contents.{Contents}
use Rattle.tune_archive.specs.Shelf.{Shelf, state_of, StandsForOneOf}

-- PAGES
-- They hold a state within the limits, and the one after the change is within them too.
pub record StaysWithin (s : Stand) (contents : Contents) (change : Change) : Type 0 where
  pub state : State
  pub holds : HoldsContents s contents state
  pub within : IsState state
  pub next : IsState (changed change state)

-- The disk as a change leaves it, whatever it answers: honesty is kept backwards, and each failure
-- of an honest disk is counted.
pub record CallsWhere {D T : Type 0} (honest : D → Type 0) (failures : D → ℕ)
    (result : Result T Fault) (old new : Option D) : Type 0 where
  pub was_honest : HonestAt honest new → HonestAt honest old
  pub counted : MatchResult result
      (λ _. failures_at failures new ≡ failures_at failures old)
      (λ fault. CountsFaultWhere (HonestAt honest new) fault
      (failures_at failures old) (failures_at failures new))

-- A stop at any moment of a change that is laid leaves the pages from before it or those that it
-- lays, which are not more than there may be.
pub record PassesLaid (old new : DiskState) (before : Stand) (contents : Contents)
    (change : Change) : Type 0 where
  pub next : Stand
  pub memory : Memory
  pub lays : LaysMemory before next contents memory change
  pub few : length next.pages ≤ length before.used
  pub moments : SinceThen old new (StandsForEither before.pages next.pages)

-- so does a stop at any moment of a call; or it did nothing to the disk
abbrev pub PassesChange : DiskState → DiskState → Stand → Contents → Change → Type 0
PassesChange old new before contents change =
    (new ≡ old) ⊎ PassesLaid old new before contents change

-- The change was laid: the pages are those of it, and a stop now leaves these alone.
pub record HasLaid {D : Type 0} (state : D → DiskState) (old new : Kept D)
    (contents left : Contents) (change : Change) : Type 0 where
  pub lays : LaysState (stand_of old) (stand_of new) contents left change
  pub few : length new.pages ≤ length old.used
  pub rest : LeavesOnly (state_at state new.disk).now (StandsFor new.pages)

-- Nothing was done: the pages and the disk are as they were.
pub record StaysKept {D : Type 0} (honest : D → Type 0) (state : D → DiskState)
    (old new : Kept D) : Type 0 where
  pub same : SameKept honest old new
  pub disk : HonestAt honest new.disk → state_at state new.disk ≡ state_at state old.disk

-- `Device` alone closes the pages, and `Closed` never comes.
abbrev pub IsPagesFault : Fault → Bool → Type 0
IsPagesFault FileFull closed = closed ≡ false
IsPagesFault OutOfMemory closed = closed ≡ false
IsPagesFault Device closed = closed ≡ true
IsPagesFault Closed closed = ⊥

abbrev pub AnswersPages : {T : Type 0} → Result T Fault → Bool → Type 0
AnswersPages result closed =
    MatchResult result (λ _. closed ≡ false) (λ fault. IsPagesFault fault closed)

-- THE ARCHIVE
-- A fault of pages as a refusal. Pages of an honest disk are never too few for an archive, so full
-- ones tell of a device that failed.
abbrev pub refusal_of_pages : Fault → Refusal
refusal_of_pages FileFull = refusal.Device
refusal_of_pages OutOfMemory = refusal.OutOfMemory
refusal_of_pages Device = refusal.Device
refusal_of_pages Closed = refusal.Closed

-- whether it closes the archive
abbrev pub closes : Fault → Bool
closes FileFull = true
closes OutOfMemory = false
closes Device = true
closes Closed = false

-- A change that was not made: there was no memory for it, and the disk is as it was; or the device
-- failed, so that it was made or was not, and the archive is closed.
abbrev pub IsUnmadeChange : {D : Type 0} → disk.Ghosts D → Refusal → Shelf D → Shelf D → Change
    → Type 0
IsUnmadeChange disks why old new change =
    ((why ≡ refusal.OutOfMemory) × (new.closed ≡ false)
    × (HonestAt disks.honest new.pages.disk
    → state_at disks.state new.pages.disk ≡ state_at disks.state old.pages.disk))
    ⊎ ((why ≡ refusal.Device) × (new.closed ≡ true)
    × (HonestAt disks.honest new.pages.disk → (state_of disks.state new ≡ state_of disks.state old)
    ⊎ (state_of disks.state new ≡ changed change (state_of disks.state old)))
    × (HonestAt disks.honest new.pages.disk → HasFailed
    (failures_at disks.failures old.pages.disk) (failures_at disks.failures new.pages.disk)))

-- A change was made, or was not; a stop at any moment of the call leaves the state before it or the
-- one after it.
pub record MakesChange {D : Type 0} (disks : disk.Ghosts D) (result : Result (Unit {0}) Refusal)
    (old new : Shelf D) (change : Change) : Type 0 where
  pub was_honest : HonestAt disks.honest new.pages.disk → HonestAt disks.honest old.pages.disk
  pub moments : HonestAt disks.honest new.pages.disk
      → SinceThen (state_at disks.state old.pages.disk) (state_at disks.state new.pages.disk)
      (StandsForOneOf (state_of disks.state old) (changed change (state_of disks.state old)))
  pub made : MatchResult result
      (λ _. (new.closed ≡ false) × (HonestAt disks.honest new.pages.disk
      → state_of disks.state new ≡ changed change (state_of disks.state old)))
      (λ refusal. IsUnmadeChange disks refusal old new change)
