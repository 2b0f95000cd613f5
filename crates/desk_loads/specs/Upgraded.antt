-- What an order does that brings FILE to layout 2.
use Rattle.std.specs.Prelude.{◌≡◌, ◌≢◌, ◌⊎◌, ℕ, List, ◌++◌, codes, false, Some, Result, Ok, Err}
use Rattle.tune_disk.specs.Stops.{LeavesOnly}
use Rattle.tune_disk.specs.declared.disk.Disk as disk
use Rattle.tune_disk.specs.declared.file.Access.TheVariants.{Change}
use Rattle.tune_pages.specs.Kept.{HonestAt}
use Rattle.tune_store.specs.Answers.{Answers, passed}
use Rattle.tune_store.specs.Stores.{StorePasses, standing_of}
use Rattle.tune_store.specs.TuneSteps.{upgraded_state}
use Rattle.tune_store.specs.declared.command.Command.TheVariants.{Upgrade}
use Rattle.tune_store.specs.declared.command.Refusal.{Refusal}
use Rattle.tune_store.specs.declared.command.Reply.{Reply}
use Rattle.tune_store.specs.declared.layout.Layout.TheVariants.{Two}
use Rattle.tune_format.specs.States.{Holds}
use Rattle.tune_archive.specs.AsStore.{store_on}
use Rattle.tune_archive.specs.Shelf.{Shelf, state_of}
use Rattle.tune_desk.specs.DeskDeeds.{DeskDeed}
use Rattle.desk_scenes.specs.FileAnswers.{Did}
use Rattle.desk_scenes.specs.OpenedFile.{IsArchiveOf}
use Rattle.desk_scenes.specs.Printing.{IsSilent, Prints}
use Rattle.desk_scenes.specs.Scenes.{Scene}
use Rattle.desk_scenes.specs.Visits.{Visits, visit}

-- THE ARCHIVE
-- It was looked at, and is as it was.
abbrev pub StaysLookedAt : {D : Type 0} → Shelf D → Shelf D → Type 0
StaysLookedAt start finish = finish ≡ start

-- It was of layout 2 already.
abbrev pub WasOfTwo : {D : Type 0} → disk.Ghosts D → Shelf D → Shelf D → Type 0
WasOfTwo disks start finish = StaysLookedAt start finish
    × (HonestAt disks.honest start.pages.disk → (state_of disks.state start).layout ≡ Two)

-- The one command `Upgrade` was carried out on it, with this answer; meanwhile a stop leaves the
-- state before it or after it.
pub record AnswersUpgrade {D : Type 0} (disks : disk.Ghosts D) (answer : Result Reply Refusal)
    (start finish : Shelf D) : Type 0 where
  pub answers : HonestAt disks.honest finish.pages.disk
      → Answers (standing_of (store_on disks) start) Upgrade answer
      (standing_of (store_on disks) finish)
  pub stops : StorePasses (store_on disks) start finish
      (passed (state_of disks.state start) Upgrade answer)

-- It was accepted: the archive has the same tunes and set lists, in layout 2.
pub record BecameOfTwo {D : Type 0} (disks : disk.Ghosts D) (start finish : Shelf D) : Type 0 where
  pub reply : Reply
  pub upgrade : AnswersUpgrade disks (Ok reply) start finish
  pub became : HonestAt disks.honest finish.pages.disk
      → state_of disks.state finish ≡ upgraded_state (state_of disks.state start)
  pub is_open : finish.closed ≡ false

-- It was refused.
abbrev pub RefusesUpgrade : {D : Type 0} → disk.Ghosts D → Shelf D → Shelf D → Type 0
RefusesUpgrade disks start finish =
    (refusal : Refusal) × AnswersUpgrade disks (Err refusal) start finish

-- AROUND IT
-- FILE was opened to change, once, and closed: this was done with its archive. Where the archive is
-- open at the end, each file that a stop leaves then holds its state.
pub record IsOpenedOnce {D : Type 0} (disks : disk.Ghosts D) (file : List ℕ)
    (Does : Shelf D → Shelf D → Type 0) (was now : List (DeskDeed D)) : Type 0 where
  pub old : D
  pub new : D
  pub start : Shelf D
  pub finish : Shelf D
  pub is : IsArchiveOf disks old start
  pub became : finish.pages.disk ≡ Some new
  pub deeds : now ≡ was ++ visit file Change old new
  pub rest : HonestAt disks.honest finish.pages.disk → finish.closed ≡ false
      → LeavesOnly (disks.state new).now (λ left. Holds left (state_of disks.state finish))
  pub does : Does start finish

-- THE THEOREM OF AN UPGRADE. FILE was of layout 2 already, or is of it now, and that is printed; or
-- the status says that it was not opened, or that the upgrade was refused.
abbrev pub Upgrades : {D : Type 0} → disk.Ghosts D → List ℕ → Scene D → Type 0
Upgrades disks file scene =
    (IsOpenedOnce disks file (WasOfTwo disks) scene.was scene.now
    × Prints scene.streams (codes "it is of layout 2 already, and stays as it is\n") scene.status)
    ⊎ ((IsOpenedOnce disks file (BecameOfTwo disks) scene.was scene.now
    × Prints scene.streams (codes "it is of layout 2 now\n") scene.status)
    ⊎ ((scene.status ≢ 0) × IsSilent scene.streams
    × (Did scene.was scene.now (Visits disks file Change)
    ⊎ IsOpenedOnce disks file (RefusesUpgrade disks) scene.was scene.now)))
