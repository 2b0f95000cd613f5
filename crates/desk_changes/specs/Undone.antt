-- What an order does that undoes changes of FILE.
use Rattle.std.specs.Prelude.{◌≡◌, ◌≢◌, ◌⊎◌, ℕ, ◌+◌, ◌<◌, List, [], ◌∷◌, ◌++◌, Bool}
use Rattle.std.specs.Prelude.{if◌then◌else◌}
use Rattle.desk_terms.specs.declared.undoing.Undoing.{Undoing}
use Rattle.desk_terms.specs.declared.undoing.Undoing.TheVariants as undoing
use Rattle.tune_disk.specs.declared.disk.Disk as disk
use Rattle.tune_disk.specs.declared.file.Access.TheVariants.{Change}
use Rattle.tune_archive.specs.Shelf.{Shelf}
use Rattle.tune_undo.specs.OldEntries.{StepValue}
use Rattle.tune_desk.specs.DeskDeeds.{DeskDeed}
use Rattle.desk_scenes.specs.FileAnswers.{Did}
use Rattle.desk_scenes.specs.Printing.{Prints}
use Rattle.desk_scenes.specs.Scenes.{Scene, IsQuiet}
use Rattle.desk_scenes.specs.Visits.{Visits}
use Rattle.desk_changes.specs.ChangedFiles.{Passage, IsChangedWithin}
use Rattle.desk_changes.specs.ToldChanges.{ListsChanges}
use Rattle.desk_changes.specs.OldChanges.{BookChange, changes_of_steps, ReadsSteps}
use Rattle.desk_changes.specs.TakenBack.{IsStill, UndoesChange, BreaksOffChange}

-- These changes were undone, the last one first, in so many of them there was something to be taken
-- back, and this was told of them, one after another.
abbrev pub GoesBack : {D : Type 0} → disk.Ghosts D → List ℕ → List BookChange → ℕ → List ℕ
    → Passage D → Type 0
GoesBack disks file [] taken told course = (taken ≡ 0) × (told ≡ []) × IsStill course
GoesBack {D} disks file (change ∷ later) taken told course =
    (mid : Shelf D) × (deeds : List (DeskDeed D)) × (before : ℕ) × (some : Bool)
    × (told_later : List ℕ) × (told_this : List ℕ)
    × GoesBack disks file later before told_later (record course { finish = mid; now = deeds })
    × UndoesChange disks file change some told_this (record course { start = mid; was = deeds })
    × (taken ≡ (if some then before + 1 else before)) × (told ≡ told_later ++ told_this)

-- Of the changes of these entries the last were undone, until so many were taken back.
pub record UndoesLast {D : Type 0} (disks : disk.Ghosts D) (file : List ℕ) (count : ℕ)
    (told : List ℕ) (steps : List StepValue) (course : Passage D) : Type 0 where
  pub earlier : List BookChange
  pub gone : List BookChange
  pub split : changes_of_steps steps ≡ earlier ++ gone
  pub back : GoesBack disks file gone count told course

-- What ended an undoing before: no change was left; or the last one that was left was not undone.
abbrev pub EndsBefore : {D : Type 0} → disk.Ghosts D → List ℕ → List BookChange → Passage D
    → Type 0
EndsBefore disks file earlier course = ((earlier ≡ []) × IsStill course)
    ⊎ ((others : List BookChange) × (change : BookChange) × (earlier ≡ others ++ change ∷ [])
    × BreaksOffChange disks file change course)

-- Of the changes of these entries the last were undone, but fewer were taken back than this, and
-- then no other one was.
pub record UndoesFewer {D : Type 0} (disks : disk.Ghosts D) (file : List ℕ) (count : ℕ)
    (steps : List StepValue) (course : Passage D) : Type 0 where
  pub earlier : List BookChange
  pub gone : List BookChange
  pub split : changes_of_steps steps ≡ earlier ++ gone
  pub taken : ℕ
  pub fewer : taken < count
  pub told : List ℕ
  pub mid : Shelf D
  pub deeds : List (DeskDeed D)
  pub back : GoesBack disks file gone taken told (record course { finish = mid; now = deeds })
  pub ends : EndsBefore disks file earlier (record course { start = mid; was = deeds })

-- The book of old texts was read, and this was done with the entries that stand in it.
pub record UsesBook {D : Type 0} (file : List ℕ) (Does : List StepValue → Passage D → Type 0)
    (course : Passage D) : Type 0 where
  pub steps : List StepValue
  pub began : List (DeskDeed D)
  pub reads : ReadsSteps file steps course.was began
  pub does : Does steps (record course { was = began })

-- The book was not read, and nothing was done.
abbrev pub FindsNoBook : {D : Type 0} → Passage D → Type 0
FindsNoBook course = (course.finish ≡ course.start) × IsQuiet course.was course.now

-- FILE was opened to change, so many changes were taken back, and what was told of them is printed;
-- or the status says that they were not.
abbrev pub UndoesFile : {D : Type 0} → disk.Ghosts D → List ℕ → ℕ → Scene D → Type 0
UndoesFile disks file count scene =
    ((told : List ℕ)
    × IsChangedWithin disks file (UsesBook file (UndoesLast disks file count told))
    scene.was scene.now
    × Prints scene.streams told scene.status)
    ⊎ ((scene.status ≢ 0) × (Did scene.was scene.now (Visits disks file Change)
    ⊎ (IsChangedWithin disks file FindsNoBook scene.was scene.now
    ⊎ IsChangedWithin disks file (UsesBook file (UndoesFewer disks file count))
    scene.was scene.now)))

-- THE THEOREM OF AN UNDOING. Changes are listed; or so many are taken back.
abbrev pub Undoes : {D : Type 0} → disk.Ghosts D → List ℕ → Undoing → Scene D → Type 0
Undoes disks file undoing.Last scene = UndoesFile disks file 1 scene
Undoes disks file (undoing.To count) scene = UndoesFile disks file count scene
Undoes disks file (undoing.List form) scene = ListsChanges file form scene
