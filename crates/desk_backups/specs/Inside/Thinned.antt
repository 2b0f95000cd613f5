-- How far old copies were taken away.
use Rattle.std.specs.Prelude.{ℕ, ◌<◌, List, Result, Ok, Err}
use Rattle.tune_desk.specs.DeskDeeds.{DeskDeed}
use Rattle.desk_backups.specs.OldCopies.{Thinning, ThinsOut, HasNewer, IsFound}
use Rattle.desk_backups.specs.declared.backup_reasons.Unbacked.{Unbacked}
use Rattle.desk_backups.specs.declared.old_copies.Walked.{Walked}

-- So far old copies were taken away alone; and of each number below the last one that was found
-- there are so many newer copies.
pub record IsThinned {D : Type 0} (thinning : Thinning) (walked : Walked)
    (was now : List (DeskDeed D)) : Type 0 where
  pub thins : ThinsOut thinning was now
  pub newer : (number : ℕ) → number < walked.last
      → HasNewer thinning walked.found number thins.since

abbrev pub ThinsOn : {D : Type 0} → Thinning → Result Walked Unbacked → List (DeskDeed D)
    → List (DeskDeed D) → Type 0
ThinsOn thinning (Ok walked) was now = IsThinned thinning walked was now
ThinsOn thinning (Err why) was now = ThinsOut thinning was now

-- So far old copies were taken away alone; and COPY of this number is an old one.
pub record IsOldCopy {D : Type 0} (thinning : Thinning) (number : ℕ) (was now : List (DeskDeed D))
    : Type 0 where
  pub thins : ThinsOut thinning was now
  pub found : IsFound thinning number thins.since
  pub newer : HasNewer thinning thinning.keep number thins.since
