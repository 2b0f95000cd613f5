-- What is kept of the lines that the last tune carried.
use Rattle.std.specs.Prelude.{◌≡◌, List}
use Rattle.abc_fields.specs.Tunes.{joined}
use Rattle.abc_fields.specs.Inside.HeaderRows.{HeaderRow, taken_lines, in_table}
use Rattle.abc_fields.specs.declared.carried.Kept.{Kept}
use Rattle.abc_fields.specs.declared.carried.Carried.{Carried}

-- what is kept for these letters is what a tune carries of these rows that has them
abbrev pub IsKeptOfRows : List HeaderRow → Kept → Type 0
IsKeptOfRows rows kept = kept.bytes.items ≡ joined (taken_lines (in_table kept.letters.table) rows)

-- so it is for the last letters and for those before them
pub record KeepsCarried (rows : List HeaderRow) (carried : Carried) : Type 0 where
  pub shares : carried.shares ≡ rows
  pub last : IsKeptOfRows rows carried.last
  pub before : IsKeptOfRows rows carried.before
