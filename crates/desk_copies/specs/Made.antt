-- What an order does that puts an archive where FILE leads.
use Rattle.std.specs.Prelude.{◌≡◌, ◌≢◌, ◌⊎◌, ℕ, List}
use Rattle.tune_disk.specs.Stops.{LeavesOnly}
use Rattle.tune_disk.specs.declared.disk.Disk as disk
use Rattle.tune_store.specs.State.{empty_of}
use Rattle.tune_store.specs.declared.layout.Layout.TheVariants.{Two}
use Rattle.tune_format.specs.States.{Holds}
use Rattle.tune_desk.specs.ArchiveFiles.{MakesArchive, MakesNone, PutsArchive}
use Rattle.tune_desk.specs.DeskDeeds.{DeskDeed}

-- NEW
-- An archive in which nothing is yet was put there: it is all that a stop leaves of its disk.
pub record PutsEmpty {D : Type 0} (disks : disk.Ghosts D) (file : List ℕ)
    (was now : List (DeskDeed D)) : Type 0 where
  pub makes : MakesArchive file was now
  pub disk : D
  pub puts : PutsArchive file disk was now
  pub empty : disks.honest disk
      → LeavesOnly (disks.state disk).now (λ left. Holds left (empty_of Two))

-- It was, and the status is 0; or it was not, and the status says so.
abbrev pub MakesEmpty : {D : Type 0} → disk.Ghosts D → List ℕ → List (DeskDeed D)
    → List (DeskDeed D) → ℕ → Type 0
MakesEmpty disks file was now status = ((status ≡ 0) × PutsEmpty disks file was now)
    ⊎ ((status ≢ 0) × MakesNone file was now)
