-- WHICH NUMBER A NEW COPY GETS: by what the desk answered, it is the next one.
use Rattle.std.specs.Prelude.{◌≡◌, ◌⊎◌, ℕ, zero, suc, ◌<◌, ◌≤◌, ◌^◌, List, [], ◌∷◌, ◌++◌, codes}
use Rattle.std.specs.Prelude.{decimal, Some, Ok, Err}
use Rattle.std.specs.List.{AllByRecursion, Contains}
use Rattle.std.specs.Path.{path_file_name}
use Rattle.tune_desk.specs.DeskDeeds.{DeskDeed, ChangesNothing, listed, looked}
use Rattle.tune_desk.specs.KeptNames.{folder_of}
use Rattle.tune_desk.specs.declared.desk.DeskFault.TheVariants.{Missing}
use Rattle.tune_desk.specs.declared.desk.Standing.{Standing}
use Rattle.tune_desk.specs.declared.desk.Standing.TheVariants.{Nothing, File, Folder, Other}

-- A name is COPY.N, by the last part of the path COPY: N is not 0, and has at most nine digits.
pub record IsCopyName (last name : List ℕ) (number : ℕ) : Type 0 where
  pub some : 0 < number
  pub short : number < 10 ^ 9
  pub is : name ≡ last ++ (codes "." ++ decimal number)

-- One of these names is COPY.N.
pub record IsListedCopy (copy : List ℕ) (names : List (List ℕ)) (number : ℕ) : Type 0 where
  pub last : List ℕ
  pub name : List ℕ
  pub of_copy : path_file_name copy ≡ Some last
  pub among : Contains names name
  pub numbered : IsCopyName last name number

-- COPY of a number is there: COPY itself, which is 0, where a file stands there; or COPY.N.
abbrev pub IsCopyThere : Standing → List ℕ → List (List ℕ) → ℕ → Type 0
IsCopyThere standing copy names number =
    ((standing ≡ File) × (number ≡ 0)) ⊎ IsListedCopy copy names number

-- It is one more than the greatest of some numbers, and 0 where there is none.
abbrev pub IsNextNumber : (ℕ → Type 0) → ℕ → Type 0
IsNextNumber Is zero = (number : ℕ) → ¬ (Is number)
IsNextNumber Is (suc greatest) = Is greatest × ((number : ℕ) → Is number → number ≤ greatest)

-- The desk told the names in a folder; there are none where there is no folder.
abbrev pub ListsNames : {D : Type 0} → List ℕ → List (List ℕ) → List (DeskDeed D) → Type 0
ListsNames folder names since = Contains since (listed folder (Ok names))
    ⊎ (Contains since (listed folder (Err Missing)) × (names ≡ []))

-- The folder of COPY was asked for its names, and the number is the next of those that are there.
pub record CountsCopies {D : Type 0} (standing : Standing) (copy : List ℕ) (number : ℕ)
    (since : List (DeskDeed D)) : Type 0 where
  pub names : List (List ℕ)
  pub told : ListsNames (folder_of copy) names since
  pub next : IsNextNumber (IsCopyThere standing copy names) number

-- So it is where a file stands at COPY, or nothing. Else it is 0, and a copy is made only where
-- nothing stands at COPY by then.
abbrev pub NumbersCopy : {D : Type 0} → Standing → List ℕ → ℕ → List (DeskDeed D) → Type 0
NumbersCopy Nothing copy number since = CountsCopies Nothing copy number since
NumbersCopy File copy number since = CountsCopies File copy number since
NumbersCopy Folder copy number since = number ≡ 0
NumbersCopy Other copy number since = number ≡ 0

-- The desk was asked what stands at COPY, and then the rest; no file was changed.
pub record FindsNextCopy {D : Type 0} (copy : List ℕ) (number : ℕ) (was now : List (DeskDeed D))
    : Type 0 where
  pub standing : Standing
  pub since : List (DeskDeed D)
  pub history : now ≡ was ++ looked copy (Ok standing) ∷ since
  pub quiet : AllByRecursion ChangesNothing since
  pub numbers : NumbersCopy standing copy number since
