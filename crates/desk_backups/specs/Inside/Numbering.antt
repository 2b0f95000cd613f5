-- The numbers of the copies in a folder.
use Rattle.std.specs.Prelude.{◌≡◌, ℕ, ◌<◌, ◌^◌, List, decimal}
use Rattle.std.specs.List.{Contains}
use Rattle.tune_desk.specs.DeskDeeds.{DeskDeed}
use Rattle.tune_desk.specs.KeptNames.{folder_of}
use Rattle.desk_backups.specs.NextCopies.{IsCopyName, IsListedCopy, ListsNames}

-- These digits write the number of a copy.
pub record IsCopyNumber (digits : List ℕ) (number : ℕ) : Type 0 where
  pub some : 0 < number
  pub short : number < 10 ^ 9
  pub written : digits ≡ decimal number

-- These are the numbers of the names that are COPY.N, by the last part of COPY.
pub record AreNumbered (last : List ℕ) (names : List (List ℕ)) (numbers : List ℕ) : Type 0 where
  pub each : (number : ℕ) → Contains numbers number
      → (name : List ℕ) × Contains names name × IsCopyName last name number
  pub all : (name : List ℕ) (number : ℕ) → Contains names name → IsCopyName last name number
      → Contains numbers number

-- The same by COPY.
pub record AreListedCopies (copy : List ℕ) (names : List (List ℕ)) (numbers : List ℕ) : Type 0 where
  pub each : (number : ℕ) → Contains numbers number → IsListedCopy copy names number
  pub all : (number : ℕ) → IsListedCopy copy names number → Contains numbers number

-- The desk told the names of which these are the numbers.
pub record TellsNumbers {D : Type 0} (copy : List ℕ) (numbers : List ℕ) (since : List (DeskDeed D))
    : Type 0 where
  pub names : List (List ℕ)
  pub told : ListsNames (folder_of copy) names since
  pub are : AreListedCopies copy names numbers
