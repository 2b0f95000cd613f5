-- What is done once a copy has its name.
use Rattle.std.specs.Prelude.{◌≡◌, ◌⊎◌, ℕ, List}
use Rattle.tune_desk.specs.DeskDeeds.{DeskDeed}
use Rattle.tune_desk.specs.Results.{SparesFiles}
use Rattle.desk_backups.specs.Backups.{WritesSum}
use Rattle.desk_backups.specs.CopyNames.{sum_places}

-- Its sum was written by the rule of results, and then old copies were taken away, or not.
pub record SparesSum {D : Type 0} (file path : List ℕ) (Thins : List (DeskDeed D)
    → List (DeskDeed D) → Type 0) (was now : List (DeskDeed D)) : Type 0 where
  pub summed : List (DeskDeed D)
  pub sums : SparesFiles (sum_places file path) was summed
  pub thins : (now ≡ summed) ⊎ Thins summed now

-- Its sum was written, and then old copies were taken away.
pub record SumsWhole {D : Type 0} (file path sum : List ℕ) (Thins : List (DeskDeed D)
    → List (DeskDeed D) → Type 0) (was now : List (DeskDeed D)) : Type 0 where
  pub summed : List (DeskDeed D)
  pub sums : WritesSum file path sum was summed
  pub thins : Thins summed now
