-- Old copies that are taken away.
use Rattle.std.specs.Prelude.{◌≡◌, ◌⊎◌, ℕ, zero, suc, ◌<◌, List, [], ◌++◌, Option, Some, None, Ok}
use Rattle.std.specs.Prelude.{true, string_bytes}
use Rattle.std.specs.List.{Contains}
use Rattle.desk_copies.specs.SumFiles.{sum_path}
use Rattle.tune_desk.specs.DeskDeeds.{DeskDeed, ChangesNothing, removed, tested}
use Rattle.tune_desk.specs.Results.{AreFoundApart, EachAfter, archive_head}
use Rattle.desk_backups.specs.CopyNames.{numbered_copy}
use Rattle.desk_backups.specs.declared.old_copies.AskedThinning.{AskedThinning}

-- FILE and COPY, the number of the copy that was just made, and how many are to stay.
pub record Thinning : Type 0 where
  pub file : List ℕ
  pub copy : List ℕ
  pub newest : ℕ
  pub keep : ℕ

abbrev pub thinning_by : AskedThinning → Thinning
thinning_by asked = record {
  file = string_bytes asked.file.now;
  copy = string_bytes asked.copy.now;
  newest = asked.newest;
  keep = asked.keep;
}

-- COPY of a number was looked at, and begins as an archive.
abbrev pub IsFound : {D : Type 0} → Thinning → ℕ → List (DeskDeed D) → Type 0
IsFound thinning number before =
    Contains before (tested (numbered_copy thinning.copy number) archive_head (Ok true))

-- There are so many copies of greater numbers: the one that was just made, and others that were
-- found.
abbrev pub HasNewer : {D : Type 0} → Thinning → ℕ → ℕ → List (DeskDeed D) → Type 0
HasNewer thinning zero number before = Unit {0}
HasNewer thinning (suc others) number before = (newer : ℕ) × (number < newer)
    × ((newer ≡ thinning.newest) ⊎ IsFound thinning newer before)
    × HasNewer thinning others newer before

-- An old copy may go, and the sum beside it: it begins as an archive, there are as many newer ones
-- as are to stay, and what is taken away is not FILE by any name.
pub record MayGo {D : Type 0} (thinning : Thinning) (path : List ℕ) (before : List (DeskDeed D))
    : Type 0 where
  pub number : ℕ
  pub found : IsFound thinning number before
  pub newer : HasNewer thinning thinning.keep number before
  pub other : AreFoundApart path thinning.file before
  pub is : (path ≡ numbered_copy thinning.copy number)
      ⊎ (path ≡ sum_path (numbered_copy thinning.copy number))

-- A deed takes such a file away, or it changes nothing.
abbrev pub Thins : {D : Type 0} → Thinning → List (DeskDeed D) → DeskDeed D → Type 0
Thins thinning before (removed path answer) = MayGo thinning path before
Thins thinning before deed = ChangesNothing deed

pub record ThinsOut {D : Type 0} (thinning : Thinning) (was now : List (DeskDeed D)) : Type 0 where
  pub since : List (DeskDeed D)
  pub history : now ≡ was ++ since
  pub each : EachAfter (Thins thinning) [] since

-- So it was done, where it was asked how many are to stay; or else nothing was.
abbrev pub ThinsBy : {D : Type 0} → List ℕ → List ℕ → ℕ → Option ℕ → List (DeskDeed D)
    → List (DeskDeed D) → Type 0
ThinsBy file copy newest None was now = now ≡ was
ThinsBy file copy newest (Some keep) was now =
    ThinsOut (record { file = file; copy = copy; newest = newest; keep = keep }) was now
