-- THE THEOREM ON FILES of the order that copies the archive.
use Rattle.std.specs.Prelude.{◌≡◌, ◌⊎◌, ℕ, List, Option, Ok}
use Rattle.tune_desk.specs.DeskDeeds.{DeskDeed}
use Rattle.tune_desk.specs.Refusals.{WasNamed}
use Rattle.tune_desk.specs.Results.{LeadsTo, SparesFiles}
use Rattle.desk_scenes.specs.FileAnswers.{Did}
use Rattle.desk_backups.specs.CopyNames.{numbered_copy, copy_places, sum_places}
use Rattle.desk_backups.specs.OldCopies.{ThinsBy}

-- A copy got its name, and the device kept that.
abbrev pub IsNamed : {D : Type 0} → List ℕ → List ℕ → List (DeskDeed D) → Type 0
IsNamed file path since = (target : List ℕ) × LeadsTo (copy_places file path) target since
    × WasNamed target (Ok tt) since

-- The copy was made by the rule of results, and then its sum by the same rule: neither is written
-- over anything, nor is FILE. Then, only where the copy got its name and the device kept it, old
-- copies were taken away.
pub record SparesCopy {D : Type 0} (file path : List ℕ) (Thins : List (DeskDeed D)
    → List (DeskDeed D) → Type 0) (was now : List (DeskDeed D)) : Type 0 where
  pub copied : List (DeskDeed D)
  pub summed : List (DeskDeed D)
  pub copies : SparesFiles (copy_places file path) was copied
  pub sums : SparesFiles (sum_places file path) copied summed
  pub thins : (now ≡ summed) ⊎ (Did was copied (IsNamed file path) × Thins summed now)

-- The copy is COPY of a number.
abbrev pub SparesCopies : {D : Type 0} → List ℕ → List ℕ → Option ℕ → List (DeskDeed D)
    → List (DeskDeed D) → Type 0
SparesCopies file copy keep was now = (number : ℕ)
    × SparesCopy file (numbered_copy copy number) (ThinsBy file copy number keep) was now
