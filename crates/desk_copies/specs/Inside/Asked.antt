-- What is known of a copy by the sum beside it.
use Rattle.std.specs.Prelude.{◌≡◌, ℕ, List, ◌++◌, Result, OnOk}
use Rattle.std.specs.List.{AllByRecursion}
use Rattle.tune_desk.specs.DeskDeeds.{DeskDeed, ChangesNothing}
use Rattle.desk_copies.specs.SumFiles.{AgreesWith}

-- By questions alone it was found to agree with a sum; or not.
pub record AsksSum {D T E : Type 0} (copy sum : List ℕ) (outcome : Result T E)
    (was now : List (DeskDeed D)) : Type 0 where
  pub asked : List (DeskDeed D)
  pub history : now ≡ was ++ asked
  pub quiet : AllByRecursion ChangesNothing asked
  pub agrees : OnOk outcome (AgreesWith copy sum asked)
