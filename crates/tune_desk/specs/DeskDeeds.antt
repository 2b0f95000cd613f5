-- What is done with files by their paths, one deed after another, and which files that may change.
-- A path is its bytes.
use Rattle.std.specs.Prelude.{◌≡◌, ℕ, Bool, List, [], ◌∷◌, Result, Ok, Err, String, Vec}
use Rattle.std.specs.Prelude.{map, string_bytes}
use Rattle.tune_desk.specs.declared.desk.DeskFault.{DeskFault}
use Rattle.tune_desk.specs.declared.desk.Standing.{Standing}
use Rattle.tune_disk.specs.declared.file.Access.{Access}
use Rattle.tune_disk.specs.declared.file.Access.TheVariants.{Change}

-- an answer without a value: done, or a fault
abbrev pub Answer : Type 0
Answer = Result (Unit {0}) DeskFault

-- one thing that was done with a path, with the answer to it
pub data DeskDeed (D : Type 0) : Type 0 where
  -- it was asked what stands where a path leads; whether two paths lead to one file or folder;
  -- whether a file begins with these bytes; to which path a path leads
  looked : List ℕ → Result Standing DeskFault → DeskDeed D
  compared : List ℕ → List ℕ → Result Bool DeskFault → DeskDeed D
  tested : List ℕ → List ℕ → Result Bool DeskFault → DeskDeed D
  followed : List ℕ → Result (List ℕ) DeskFault → DeskDeed D
  -- a file was read whole; the names in a folder were
  read : List ℕ → Result (List ℕ) DeskFault → DeskDeed D
  listed : List ℕ → Result (List (List ℕ)) DeskFault → DeskDeed D
  -- a file was made of these bytes, where nothing stood
  made : List ℕ → List ℕ → Answer → DeskDeed D
  -- the file of the first path got the second for its name, which nothing had; or whatever had it
  named : List ℕ → List ℕ → Answer → DeskDeed D
  named_over : List ℕ → List ℕ → Answer → DeskDeed D
  -- a file was taken away
  removed : List ℕ → Answer → DeskDeed D
  -- a file was opened as a disk; that disk was closed
  opened : List ℕ → Access → Result D DeskFault → DeskDeed D
  closed : List ℕ → D → DeskDeed D
  -- bytes were put at the end of a file, which was made where nothing stood
  grown : List ℕ → List ℕ → Answer → DeskDeed D
  -- an empty file was made, where nothing stood, and opened as a disk to change it
  created : List ℕ → Result D DeskFault → DeskDeed D
  -- the file of the first path got the second for one name more, which nothing had
  linked : List ℕ → List ℕ → Answer → DeskDeed D
  -- those may read and write the file of the first path who may do so with that of the second
  shared : List ℕ → List ℕ → Answer → DeskDeed D

-- the bytes of a path that was answered, and of names
abbrev pub path_of : {A : Type 0} → Result (String A) DeskFault → Result (List ℕ) DeskFault
path_of (Ok path) = Ok (string_bytes path)
path_of (Err fault) = Err fault

abbrev pub names_of : {A : Type 0} → Result (Vec (String A) A) DeskFault
    → Result (List (List ℕ)) DeskFault
names_of (Ok names) = Ok (map string_bytes names.items)
names_of (Err fault) = Err fault

-- the paths at which a deed may change what stands
abbrev pub changed_by : {D : Type 0} → DeskDeed D → List (List ℕ)
changed_by (made path bytes answer) = path ∷ []
changed_by (named from to answer) = from ∷ to ∷ []
changed_by (named_over from to answer) = from ∷ to ∷ []
changed_by (removed path answer) = path ∷ []
changed_by (opened path Change answer) = path ∷ []
changed_by (grown path bytes answer) = path ∷ []
changed_by (created path answer) = path ∷ []
changed_by (linked from to answer) = to ∷ []
changed_by (shared path like answer) = path ∷ []
changed_by deed = []

-- A deed that changes no file: a question, or an opening to read alone.
abbrev pub ChangesNothing : {D : Type 0} → DeskDeed D → Type 0
ChangesNothing deed = changed_by deed ≡ []
