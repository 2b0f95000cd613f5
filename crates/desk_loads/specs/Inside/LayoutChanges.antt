-- An archive that is looked at, and brought to layout 2 where it is not of it.
use Rattle.std.specs.Prelude.{ℕ, List, Result, Ok, Err}
use Rattle.tune_disk.specs.declared.disk.Disk as disk
use Rattle.tune_disk.specs.declared.file.Access.TheVariants.{Change}
use Rattle.tune_store.specs.declared.command.Refusal.{Refusal}
use Rattle.tune_archive.specs.Shelf.{Shelf}
use Rattle.tune_desk.specs.DeskDeeds.{DeskDeed}
use Rattle.desk_scenes.specs.FileAnswers.{Did}
use Rattle.desk_scenes.specs.Visits.{Visits}
use Rattle.desk_scenes.specs.declared.unanswered.Unanswered.{Unanswered}
use Rattle.desk_scenes.specs.declared.unanswered.Unanswered.TheVariants.{Unopened, Refused}
use Rattle.desk_loads.specs.Upgraded.{AnswersUpgrade, BecameOfTwo, IsOpenedOnce, WasOfTwo}
use Rattle.desk_loads.specs.declared.layout_changes.LayoutTwo.{LayoutTwo}
use Rattle.desk_loads.specs.declared.layout_changes.LayoutTwo.TheVariants.{Already, Now}

abbrev pub UpgradesBy : {D : Type 0} → disk.Ghosts D → Result LayoutTwo Refusal → Shelf D → Shelf D
    → Type 0
UpgradesBy disks (Ok Already) start finish = WasOfTwo disks start finish
UpgradesBy disks (Ok Now) start finish = BecameOfTwo disks start finish
UpgradesBy disks (Err refusal) start finish = AnswersUpgrade disks (Err refusal) start finish

-- the same around it, in FILE; or it was not opened
abbrev pub UpgradesFile : {D : Type 0} → disk.Ghosts D → List ℕ → Result LayoutTwo Unanswered
    → List (DeskDeed D) → List (DeskDeed D) → Type 0
UpgradesFile disks file (Err (Unopened why)) was now = Did was now (Visits disks file Change)
UpgradesFile disks file (Err (Refused refusal)) was now =
    IsOpenedOnce disks file (UpgradesBy disks (Err refusal)) was now
UpgradesFile disks file (Ok since) was now =
    IsOpenedOnce disks file (UpgradesBy disks (Ok since)) was now
