-- What becomes of an archive while texts of its tunes are read.
use Rattle.std.specs.Prelude.{◌≡◌, ℕ, true, false, Some, slice_index_or}
use Rattle.tune_disk.specs.Disk.{DiskState}
use Rattle.tune_pages.specs.Kept.{HonestAt, state_at, failures_at}
use Rattle.tune_store.specs.Labels.{labels_of}
use Rattle.tune_store.specs.StoreStops.{HasFailed}
use Rattle.tune_store.specs.declared.tune.Tune.{Tune}
use Rattle.tune_contents.specs.Holds.{labels_in}
use Rattle.tune_archive.specs.Shelf.{Shelf, state_of}
use Rattle.tune_archive.specs.declared.archive.Fetched.{Fetched}

-- Where its disk is honest, what it knows in memory is that of its state.
pub record KnowsState {D : Type 0} (honest : D → Type 0) (state : D → DiskState) (archive : Shelf D)
    : Type 0 where
  pub was_honest : HonestAt honest archive.pages.disk
  pub labels : labels_in archive.contents.rows.items ≡ labels_of (state_of state archive).tunes
  pub layout : archive.contents.layout ≡ (state_of state archive).layout
  pub sets : archive.contents.sets ≡ (state_of state archive).sets

-- The text of the tune at a place was read last.
pub record HasFetched {D : Type 0} (honest : D → Type 0) (state : D → DiskState)
    (archive : Shelf D) (place : ℕ) : Type 0 where
  pub last : Fetched
  pub is_last : archive.fetched ≡ Some last
  pub is : HonestAt honest archive.pages.disk
      → (d : Tune) → last.text ≡ (slice_index_or (state_of state archive).tunes place d).text

-- Texts were read, or there was no memory for one: nothing else changed.
pub record Fetches {D : Type 0} (honest : D → Type 0) (failures : D → ℕ) (state : D → DiskState)
    (old new : Shelf D) : Type 0 where
  pub was_honest : HonestAt honest new.pages.disk → HonestAt honest old.pages.disk
  pub same_state : HonestAt honest new.pages.disk
      → state_at state new.pages.disk ≡ state_at state old.pages.disk
  pub counted : failures_at failures new.pages.disk ≡ failures_at failures old.pages.disk
  pub contents : new.contents ≡ old.contents
  pub closed : new.closed ≡ old.closed

-- The device failed as a text was read, or had failed before: the archive is closed.
pub record FailsFetch {D : Type 0} (honest : D → Type 0) (failures : D → ℕ)
    (state : D → DiskState) (old new : Shelf D) : Type 0 where
  pub was_honest : HonestAt honest new.pages.disk → HonestAt honest old.pages.disk
  pub same_state : HonestAt honest new.pages.disk
      → state_at state new.pages.disk ≡ state_at state old.pages.disk
  pub contents : new.contents ≡ old.contents
  pub closed : new.closed ≡ true
  pub cause : old.closed ≡ false → HonestAt honest new.pages.disk
      → HasFailed (failures_at failures old.pages.disk) (failures_at failures new.pages.disk)
