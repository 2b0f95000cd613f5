-- What an archive holds on its pages, and what always holds of it.
use Rattle.std.specs.Prelude.{◌≡◌, ◌≤◌, Bool, false, length}
use Rattle.tune_disk.specs.Disk.{DiskState}
use Rattle.tune_disk.specs.Stops.{LeavesOnly}
use Rattle.tune_journal.specs.Image.{StandsFor}
use Rattle.tune_pages.specs.Edited.{stand_of}
use Rattle.tune_pages.specs.Kept.{Kept, HonestAt, state_at}
use Rattle.tune_store.specs.State.{IsState}
use Rattle.tune_format.specs.RootOffsets.{most_pages_of}
use Rattle.tune_contents.specs.Claimed.{AreRows}
use Rattle.tune_contents.specs.Holds.{HoldsContents}
use Rattle.tune_contents.specs.declared.contents.Contents.{Contents}
use Rattle.tune_archive.specs.Shelf.{state_on}

-- The pages hold the state of the disk, which is within the limits; a stop now leaves them alone.
pub record HoldsState {D : Type 0} (state : D → DiskState) (kept : Kept D) (contents : Contents)
    : Type 0 where
  pub holds : HoldsContents (stand_of kept) contents (state_on state kept.disk)
  pub within : IsState (state_on state kept.disk)
  pub few : length kept.pages ≤ most_pages_of (state_on state kept.disk).layout
  pub rest : LeavesOnly (state_at state kept.disk).now (StandsFor kept.pages)

-- The rows rise, whatever the disk does. An open archive has open pages, with a mark for each page
-- that there may be, which hold its state where the disk is honest.
pub record IsShelf {D : Type 0} (honest : D → Type 0) (state : D → DiskState) (kept : Kept D)
    (contents : Contents) (closed : Bool) : Type 0 where
  pub rows : AreRows contents.layout contents.rows.items
  pub marks : closed ≡ false → length kept.used ≡ most_pages_of contents.layout
  pub is_open : closed ≡ false → kept.closed ≡ false
  pub holds : HonestAt honest kept.disk → closed ≡ false → HoldsState state kept contents
