-- How FILE is opened and closed by an order that asks.
use Rattle.std.specs.Prelude.{◌≡◌, ◌⊎◌, ℕ, List, [], ◌∷◌, ◌++◌, Result, Ok, Err, ⊤}
use Rattle.tune_disk.specs.Disk.{MayLeave}
use Rattle.tune_disk.specs.declared.disk.Disk as disk
use Rattle.tune_disk.specs.declared.file.Access.{Access}
use Rattle.tune_disk.specs.declared.file.Access.TheVariants.{Read, Change}
use Rattle.tune_store.specs.State.{State}
use Rattle.tune_format.specs.States.{Holds}
use Rattle.tune_cli.specs.Headline.{File, EachStopLeaves}
use Rattle.tune_desk.specs.DeskDeeds.{DeskDeed, opened, closed}
use Rattle.tune_desk.specs.declared.desk.DeskFault.{DeskFault}

-- A stop (a crash or power loss) at any moment leaves a file that it might have left before, or one
-- that holds the state that FILE held.
abbrev pub IsSpared : File → Type 0
IsSpared file = EachStopLeaves file (λ moment left. MayLeave file.was.now left
    ⊎ ((state : State) → Holds file.was.seen state → Holds left state))

-- the same of FILE on a disk, where the disk is honest
abbrev pub SparesDisk : {D : Type 0} → disk.Ghosts D → D → D → Type 0
SparesDisk disks old new = disks.honest new
    → IsSpared (record { was = disks.state old; now = disks.state new })

-- FILE was asked for, to this end: it was opened, spared, and closed; or it could not be opened.
abbrev pub visit : {D : Type 0} → List ℕ → Access → D → D → List (DeskDeed D)
visit file access old new = opened file access (Ok old) ∷ closed file new ∷ []

abbrev pub failed_visit : {D : Type 0} → List ℕ → Access → DeskFault → List (DeskDeed D)
failed_visit file access fault = opened file access (Err fault) ∷ []

-- one such visit
pub data Visits {D : Type 0} (disks : disk.Ghosts D) (file : List ℕ) (access : Access)
    : List (DeskDeed D) → Type 0 where
  spared : (old new : D) → SparesDisk disks old new → Visits disks file access
      (visit file access old new)
  failed : (fault : DeskFault) → Visits disks file access (failed_visit file access fault)

-- FILE was opened to change between two openings to read alone, since a stop had left it within a
-- change: that brought it to rest.
abbrev pub Mends : {D : Type 0} → disk.Ghosts D → List ℕ → List (DeskDeed D) → Type 0
Mends {D} disks file deeds = (tried mended : List (DeskDeed D)) × Visits disks file Read tried
    × Visits disks file Change mended × (deeds ≡ tried ++ mended)

-- What comes before FILE is asked: nothing, or that.
abbrev pub Comes : {D : Type 0} → disk.Ghosts D → List ℕ → List (DeskDeed D) → Type 0
Comes disks file deeds = (deeds ≡ []) ⊎ Mends disks file deeds

-- FILE was not opened to read alone: that failed, or what was to come before it.
abbrev pub ComesToNothing : {D : Type 0} → disk.Ghosts D → List ℕ → List (DeskDeed D) → Type 0
ComesToNothing {D} disks file deeds = Mends disks file deeds
    ⊎ ((before tried : List (DeskDeed D)) × Comes disks file before × Visits disks file Read tried
    × (deeds ≡ before ++ tried))
