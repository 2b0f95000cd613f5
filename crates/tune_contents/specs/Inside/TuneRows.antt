-- Rows of tunes, found by number.
use Rattle.std.specs.Prelude.{ℕ, ◌<◌, ◌≤◌, List, length, map}
use Rattle.std.specs.List.{AllWithin}
use Rattle.tune_store.specs.State.{NumbersRiseFrom}
use Rattle.tune_store.specs.TuneSteps.{moved}
use Rattle.tune_store.specs.declared.tune.Tune.{Tune}
use Rattle.tune_pages.specs.Stand.{Stand}
use Rattle.tune_parts.specs.Parts.{Part}
use Rattle.tune_format.specs.declared.rows.Row.{Row}
use Rattle.tune_contents.specs.Inside.Laying.{HoldsTunes}

-- the numbers of rows
abbrev pub numbers_of_rows : List Row → List ℕ
numbers_of_rows rows = map (λ row. row.number) rows

-- the place of the first row of a greater number, or behind the last
pub record IsRowAfter (number : ℕ) (rows : List Row) (place : ℕ) : Type 0 where
  pub before : AllWithin (λ row. row.number ≤ number) rows 0 place
  pub behind : AllWithin (λ row. number < row.number) rows place (length rows)

-- Whatever tunes stand there by rising number, the one of a number has another one, where that
-- belongs; no page changes.
abbrev pub MovesTunes : List Row → List Row → ℕ → ℕ → Type 0
MovesTunes rows left number to = (s : Stand) (ahead : List Part) (tunes : List Tune)
    → NumbersRiseFrom 0 tunes → HoldsTunes s ahead tunes rows
    → HoldsTunes s ahead (moved number to tunes) left
