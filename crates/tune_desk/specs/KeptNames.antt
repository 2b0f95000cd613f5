-- The names that are kept for an archive beside it, of the paths in one folder.
use Rattle.std.specs.Prelude.{◌≡◌, ◌⊎◌, ℕ, ◌<◌, List, [], ◌∷◌, ◌++◌, length, codes}
use Rattle.std.specs.Prelude.{Option, Some, None}
use Rattle.std.specs.List.{All}
use Rattle.std.specs.Char.{IsAsciiDigit}
use Rattle.std.specs.Path.{path_parent, path_file_name}

-- The folder of a path, as a path: `.` for a name alone. The root has none, and the empty path
-- leads to nothing.
abbrev pub folder_or : List ℕ → Option (List ℕ) → List ℕ
folder_or path None = path
folder_or path (Some []) = codes "."
folder_or path (Some (byte ∷ bytes)) = byte ∷ bytes

abbrev pub folder_of : List ℕ → List ℕ
folder_of path = folder_or path (path_parent path)

-- a dot, digits, and `.old`: behind its name, an archive that was put aside under a number
pub record IsNumbered (ending : List ℕ) : Type 0 where
  pub digits : List ℕ
  pub some : 0 < length digits
  pub each : All IsAsciiDigit digits
  pub written : ending ≡ codes "." ++ digits ++ codes ".old"

-- what stands behind the name of an archive in a name that is kept for it
abbrev pub IsKeptEnding : List ℕ → Type 0
IsKeptEnding ending =
    (ending ≡ codes ".new") ⊎ (ending ≡ codes ".old.abc") ⊎ IsNumbered ending

-- The last part of a path is that of another, and then this ending.
pub record EndsAs (ending path other : List ℕ) : Type 0 where
  pub name : List ℕ
  pub of_path : path_file_name path ≡ Some (name ++ ending)
  pub of_other : path_file_name other ≡ Some name

-- Of two paths in one folder, the first has the name of the second; it has one that is kept for it.
abbrev pub IsNamesake : List ℕ → List ℕ → Type 0
IsNamesake path file = EndsAs [] path file

pub record IsKeptName (path file : List ℕ) : Type 0 where
  pub ending : List ℕ
  pub kept : IsKeptEnding ending
  pub ends : EndsAs ending path file
