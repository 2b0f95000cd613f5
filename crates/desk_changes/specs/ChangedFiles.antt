-- What an order that changes does with FILE.
use Rattle.std.specs.Prelude.{◌≡◌, ◌≢◌, ◌⊎◌, ℕ, List, [], ◌∷◌, ◌++◌, Some, Result, Ok, Err}
use Rattle.tune_disk.specs.declared.disk.Disk as disk
use Rattle.tune_disk.specs.declared.file.Access.TheVariants.{Change}
use Rattle.tune_store.specs.State.{State}
use Rattle.tune_store.specs.declared.command.Refusal.{Refusal}
use Rattle.tune_pages.specs.Kept.{HonestAt}
use Rattle.tune_archive.specs.AsStore.{store_on}
use Rattle.tune_archive.specs.Shelf.{Shelf, state_of}
use Rattle.tune_asking.specs.Asking.{IsOnlyAsked}
use Rattle.tune_undo.specs.EntryBytes.{entry_bytes}
use Rattle.tune_undo.specs.declared.old_entries.EntryKind.{EntryKind}
use Rattle.tune_changes.specs.Aims.{brought_about}
use Rattle.tune_changes.specs.Carrying.{Carries}
use Rattle.tune_changes.specs.declared.turns.Turn.{Turn}
use Rattle.tune_desk.specs.DeskDeeds.{DeskDeed, opened, closed}
use Rattle.tune_desk.specs.OldTexts.{Grows, GrowsNot}
use Rattle.desk_scenes.specs.FileAnswers.{Did}
use Rattle.desk_scenes.specs.OpenedFile.{IsArchiveOf}
use Rattle.desk_scenes.specs.Visits.{Visits}
use Rattle.desk_changes.specs.EntriesOfTurns.{entry_of}

-- IN FILE
-- An archive became another one, and so did the deeds.
pub record Passage (D : Type 0) : Type 0 where
  pub start : Shelf D
  pub finish : Shelf D
  pub was : List (DeskDeed D)
  pub now : List (DeskDeed D)

-- Nothing was changed: FILE was asked, and an entry was not kept, if it came to one.
pub record LeavesAll {D : Type 0} (disks : disk.Ghosts D) (file : List ℕ) (course : Passage D)
    : Type 0 where
  pub asked : IsOnlyAsked (store_on disks) course.start course.finish
  pub unkept : GrowsNot file course.was course.now

-- An entry of these turns was kept, and then they were brought about, all of them or the first.
pub record KeepsAndBringsAbout {D : Type 0} (disks : disk.Ghosts D) (file : List ℕ)
    (kind : EntryKind)
    (turns : List Turn) (result : Result (Unit {0}) Refusal) (course : Passage D) : Type 0 where
  pub kept : Grows file (entry_bytes (entry_of kind turns)) course.was course.now
  pub carried : Carries (store_on disks) course.start course.finish
      (brought_about turns (state_of disks.state course.start)) result

-- FILE was looked at, by questions alone, and these turns were found to be what is meant; an entry
-- of them was kept, and then they were brought about.
pub record ChangesBy {D : Type 0} (disks : disk.Ghosts D) (file : List ℕ) (kind : EntryKind)
    (Means : State → List Turn → Type 0) (result : Result (Unit {0}) Refusal) (course : Passage D)
    : Type 0 where
  pub turns : List Turn
  pub mid : Shelf D
  pub looked : IsOnlyAsked (store_on disks) course.start mid
  pub means : HonestAt disks.honest mid.pages.disk → Means (state_of disks.state course.start) turns
  pub brings : KeepsAndBringsAbout disks file kind turns result (record course { start = mid })

-- AROUND IT
-- FILE was opened to change, on a disk that held an archive; this archive became another one, whose
-- disk was closed.
pub record IsChangedWithin {D : Type 0} (disks : disk.Ghosts D) (file : List ℕ)
    (Does : Passage D → Type 0) (was now : List (DeskDeed D)) : Type 0 where
  pub old : D
  pub new : D
  pub course : Passage D
  pub is : IsArchiveOf disks old course.start
  pub became : course.finish.pages.disk ≡ Some new
  pub began : course.was ≡ was ++ opened file Change (Ok old) ∷ []
  pub ended : now ≡ course.now ++ closed file new ∷ []
  pub does : Does course

-- How an order ended: what was done with files, and the status.
pub record Ending (D : Type 0) : Type 0 where
  pub was : List (DeskDeed D)
  pub now : List (DeskDeed D)
  pub status : ℕ

-- THE THEOREM OF A CHANGE. The status is 0 where the turns that the order means were brought about
-- behind their entry. Else FILE was not opened, or nothing was changed, or a refusal ended them.
abbrev pub ChangesFile : {D : Type 0} → disk.Ghosts D → List ℕ → EntryKind
    → (State → List Turn → Type 0) → Ending D → Type 0
ChangesFile disks file kind Means ending =
    ((ending.status ≡ 0)
    × IsChangedWithin disks file (ChangesBy disks file kind Means (Ok tt)) ending.was ending.now)
    ⊎ ((ending.status ≢ 0) × (Did ending.was ending.now (Visits disks file Change)
    ⊎ (IsChangedWithin disks file (LeavesAll disks file) ending.was ending.now
    ⊎ ((refusal : Refusal) × IsChangedWithin disks file
    (ChangesBy disks file kind Means (Err refusal)) ending.was ending.now))))
