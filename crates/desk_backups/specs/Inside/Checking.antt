-- A disk of a copy that is checked.
use Rattle.std.specs.Prelude.{◌≡◌, ℕ, List, ◌++◌, IfOk}
use Rattle.std.specs.List.{AllByRecursion}
use Rattle.sha2.specs.Sha256.{sha256}
use Rattle.tune_disk.specs.declared.disk.Disk as disk
use Rattle.tune_archive.specs.declared.archive.Counts.{Counts}
use Rattle.tune_desk.specs.DeskDeeds.{DeskDeed, ChangesNothing}
use Rattle.desk_copies.specs.SumFiles.{AgreesWith}
use Rattle.desk_scenes.specs.FileAnswers.{HeldState}
use Rattle.desk_scenes.specs.OpenedFile.{CountsOf}
use Rattle.desk_backups.specs.declared.checked_copies.Checking.{Checking}

-- What a disk shows agrees with the sum beside it, and these are the counts of what it holds.
pub record IsGood {D : Type 0} (disks : disk.Ghosts D) (copy : List ℕ) (source after : D)
    (asked : List (DeskDeed D)) (counts : Counts) : Type 0 where
  pub sum : List ℕ
  pub agrees : AgreesWith copy sum asked
  pub summed : disks.honest after → sum ≡ sha256 (disks.state source).seen
  pub told : HeldState disks (CountsOf counts) source after

-- By questions alone that was found; or not.
pub record ChecksDisk {D : Type 0} (disks : disk.Ghosts D) (copy : List ℕ) (source : D)
    (checking : Checking D) (was now : List (DeskDeed D)) : Type 0 where
  pub asked : List (DeskDeed D)
  pub history : now ≡ was ++ asked
  pub quiet : AllByRecursion ChangesNothing asked
  pub good : IfOk checking.outcome (IsGood disks copy source checking.disk asked)
