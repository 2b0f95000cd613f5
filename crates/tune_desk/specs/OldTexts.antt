-- What is put at the end of the book of old texts of an archive.
use Rattle.std.specs.Prelude.{◌≡◌, ◌⊎◌, ℕ, List, [], ◌∷◌, ◌++◌, codes, Ok, Err}
use Rattle.std.specs.List.{AllByRecursion}
use Rattle.tune_desk.specs.DeskDeeds.{DeskDeed, grown, ChangesNothing}
use Rattle.tune_desk.specs.Results.{old_of}
use Rattle.tune_desk.specs.declared.desk.DeskFault.{DeskFault}

-- Bytes behind an empty line, where the book is new, or may end within a line.
pub record IsPieceOf (bytes piece : List ℕ) : Type 0 where
  pub before : List ℕ
  pub is : piece ≡ before ++ bytes
  pub ends : (before ≡ codes "\n") ⊎ (before ≡ codes "\n\n")

-- After what changed nothing, these bytes came to the end of the book, and the device keeps them.
pub record Grows {D : Type 0} (file bytes : List ℕ) (was now : List (DeskDeed D)) : Type 0 where
  pub asked : List (DeskDeed D)
  pub piece : List ℕ
  pub history : now ≡ was ++ (asked ++ grown (old_of file) piece (Ok tt) ∷ [])
  pub changes_nothing : AllByRecursion ChangesNothing asked
  pub is_piece : IsPieceOf bytes piece

-- They did not: nothing was changed, or the growth failed.
pub record GrowsNot {D : Type 0} (file : List ℕ) (was now : List (DeskDeed D)) : Type 0 where
  pub asked : List (DeskDeed D)
  pub tried : List (DeskDeed D)
  pub history : now ≡ was ++ (asked ++ tried)
  pub changes_nothing : AllByRecursion ChangesNothing asked
  pub failed : (tried ≡ []) ⊎ ((piece : List ℕ) × (fault : DeskFault)
      × (tried ≡ grown (old_of file) piece (Err fault) ∷ []))
