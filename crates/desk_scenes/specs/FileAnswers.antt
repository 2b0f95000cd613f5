-- What an order that asks does with FILE.
use Rattle.std.specs.Prelude.{◌≡◌, ◌⊎◌, ℕ, List, ◌++◌}
use Rattle.tune_disk.specs.declared.disk.Disk as disk
use Rattle.tune_disk.specs.declared.file.Access.TheVariants.{Read}
use Rattle.tune_store.specs.State.{State}
use Rattle.tune_format.specs.States.{Holds}
use Rattle.tune_desk.specs.DeskDeeds.{DeskDeed}
use Rattle.desk_scenes.specs.Visits.{SparesDisk, Comes, ComesToNothing, visit}

-- FILE was opened to read alone, and closed: it is as it was.
pub record IsVisited {D : Type 0} (disks : disk.Ghosts D) (file : List ℕ)
    (deeds : List (DeskDeed D))
    : Type 0 where
  pub before : List (DeskDeed D)
  pub old : D
  pub new : D
  pub are : deeds ≡ before ++ visit file Read old new
  pub comes : Comes disks file before
  pub spares : SparesDisk disks old new

-- Where its disk was honest it held a state, of which this is so.
abbrev pub HeldState : {D : Type 0} → disk.Ghosts D → (State → Type 0) → D → D → Type 0
HeldState disks Told old new =
    disks.honest new → (state : State) × Holds (disks.state old).seen state × Told state

-- FILE was visited, and told something of the state that it held.
pub record IsAsked {D : Type 0} (disks : disk.Ghosts D) (file : List ℕ) (Told : State → Type 0)
    (deeds : List (DeskDeed D)) : Type 0 where
  pub visited : IsVisited disks file deeds
  pub told : HeldState disks Told visited.old visited.new

-- FILE told nothing: it was not opened to read alone, or it was visited.
abbrev pub IsUnasked : {D : Type 0} → disk.Ghosts D → List ℕ → List (DeskDeed D) → Type 0
IsUnasked disks file deeds = ComesToNothing disks file deeds ⊎ IsVisited disks file deeds

-- this was done between
abbrev pub Did : {D : Type 0} → List (DeskDeed D) → List (DeskDeed D) → (List (DeskDeed D) → Type 0)
    → Type 0
Did {D} was now Is = (since : List (DeskDeed D)) × (now ≡ was ++ since) × Is since
