-- What an order does that checks a copy.
use Rattle.std.specs.Prelude.{◌≡◌, ◌≢◌, ◌⊎◌, ℕ, List, [], ◌∷◌, ◌++◌, Result, Ok, Err}
use Rattle.std.specs.List.{AllByRecursion}
use Rattle.sha2.specs.Sha256.{sha256}
use Rattle.tune_disk.specs.declared.disk.Disk as disk
use Rattle.tune_disk.specs.declared.file.Access.TheVariants.{Read}
use Rattle.tune_archive.specs.declared.archive.Counts.{Counts}
use Rattle.tune_scripts.specs.Replies.{line_of}
use Rattle.tune_desk.specs.DeskDeeds.{DeskDeed, ChangesNothing, opened, closed}
use Rattle.desk_copies.specs.SumFiles.{AgreesWith}
use Rattle.desk_scenes.specs.FileAnswers.{HeldState}
use Rattle.desk_scenes.specs.OpenedFile.{CountsOf}
use Rattle.desk_scenes.specs.Printing.{IsSilent, PrintsOrNot}
use Rattle.desk_scenes.specs.Scenes.{Scene, IsQuiet}
use Rattle.desk_backups.specs.declared.backup_reasons.Unchecked.{Unchecked}

-- COPY was opened to read alone: the sum of what it shows agrees with COPY.sha256, and these are
-- the counts of the state that it holds.
pub record TellsCounts {D : Type 0} (disks : disk.Ghosts D) (copy : List ℕ) (counts : Counts)
    (was now : List (DeskDeed D)) : Type 0 where
  pub source : D
  pub after : D
  pub sum : List ℕ
  pub asked : List (DeskDeed D)
  pub history : now ≡ was ++ opened copy Read (Ok source) ∷ (asked ++ closed copy after ∷ [])
  pub quiet : AllByRecursion ChangesNothing asked
  pub agrees : AgreesWith copy sum asked
  pub summed : disks.honest after → sum ≡ sha256 (disks.state source).seen
  pub told : HeldState disks (CountsOf counts) source after

abbrev pub ChecksFile : {D : Type 0} → disk.Ghosts D → List ℕ → Result Counts Unchecked
    → List (DeskDeed D) → List (DeskDeed D) → Type 0
ChecksFile disks copy (Ok counts) was now = TellsCounts disks copy counts was now
ChecksFile disks copy (Err why) was now = IsQuiet was now

-- Its counts were printed; or nothing was, and the status says so.
abbrev pub TellsCopy : {D : Type 0} → disk.Ghosts D → List ℕ → Scene D → Type 0
TellsCopy disks copy scene = ((counts : Counts)
    × TellsCounts disks copy counts scene.was scene.now
    × PrintsOrNot scene.streams (line_of counts.layout counts.tunes counts.sets) scene.status)
    ⊎ (IsQuiet scene.was scene.now × IsSilent scene.streams × (scene.status ≢ 0))
