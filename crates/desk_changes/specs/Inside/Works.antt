-- What every call does with FILE's archive, and with the book of old texts beside it.
use Rattle.std.specs.Prelude.{ℕ, List, None, false}
use Rattle.tune_disk.specs.declared.disk.Disk as disk
use Rattle.tune_pages.specs.Kept.{HonestAt}
use Rattle.tune_scripts.specs.Carried.{Carried, CarriesAllOut}
use Rattle.tune_archive.specs.AsStore.{store_on}
use Rattle.tune_archive.specs.Shelf.{Shelf}
use Rattle.tune_desk.specs.Results.{SparesFiles, result_places}
use Rattle.desk_changes.specs.ChangedFiles.{Passage}

-- The archive became another one by commands of the store, one after another, each by one call.
pub record Works {D : Type 0} (disks : disk.Ghosts D) (start finish : Shelf D) : Type 0 where
  -- whether its disk was honest is known only after it answered
  pub was_honest : HonestAt disks.honest finish.pages.disk
      → HonestAt disks.honest start.pages.disk
  pub stays_sound : (store_on disks).sound start → (store_on disks).sound finish
  pub carried : HonestAt disks.honest finish.pages.disk
      → (carried : List (Carried (Shelf D))) × CarriesAllOut (store_on disks) start carried finish

-- And beside FILE the book of old texts grew at most.
pub record WorksBeside {D : Type 0} (disks : disk.Ghosts D) (file : List ℕ) (course : Passage D)
    : Type 0 where
  pub works : Works disks course.start course.finish
  pub spares : SparesFiles (result_places file None false) course.was course.now
