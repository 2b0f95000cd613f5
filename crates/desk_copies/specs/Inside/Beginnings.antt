-- How an archive is begun where FILE leads.
use Rattle.std.specs.Prelude.{◌≡◌, ℕ, List, ◌++◌, Result, Ok, Err}
use Rattle.std.specs.List.{AllByRecursion}
use Rattle.tune_desk.specs.ArchiveFiles.{FileLeads, IsBegunArchive, MakesNone}
use Rattle.tune_desk.specs.DeskDeeds.{DeskDeed, ChangesNothing}
use Rattle.tune_desk.specs.declared.refusals.ResultRefusal.{ResultRefusal}
use Rattle.desk_copies.specs.declared.archive_files.NewFile.{NewFile}

-- By questions alone FILE was found to lead to TARGET.
pub record IsFollowed {D : Type 0} (file target : List ℕ) (was now : List (DeskDeed D)) : Type 0
  where
    pub since : List (DeskDeed D)
    pub history : now ≡ was ++ since
    pub quiet : AllByRecursion ChangesNothing since
    pub leads : FileLeads file target since

-- Then TARGET.new was made, or not.
abbrev pub BeginsFile : {D : Type 0} → List ℕ → List ℕ → Result (NewFile D) ResultRefusal
    → List (DeskDeed D) → List (DeskDeed D) → Type 0
BeginsFile file target (Ok begun) was now = IsBegunArchive file target was now
BeginsFile file target (Err why) was now = MakesNone file was now
