-- What a change of an archive leads to, in memory.
use Rattle.std.specs.Prelude.{ℕ, ◌+◌, ◌<◌, ◌≤◌, List, ◌++◌, length, slice_set, vec_len, ⊤}
use Rattle.std.specs.List.{insert, remove}
use Rattle.tune_format.specs.declared.rows.Row.{Row}
use Rattle.tune_contents.specs.Holds.{Memory}
use Rattle.tune_contents.specs.declared.contents.Contents.{Contents}
use Rattle.tune_contents.specs.declared.next.Next.{Next}
use Rattle.tune_contents.specs.declared.next.RowChange.{RowChange}
use Rattle.tune_contents.specs.declared.next.RowChange.TheVariants.{Stay, Add, Put, Take, Move}
use Rattle.tune_contents.specs.declared.next.RowChange.TheVariants.{Whole}

-- the rows after it
abbrev pub rows_after : RowChange → List Row → List Row
rows_after Stay rows = rows
rows_after (Add more) rows = rows ++ more.items
rows_after (Put place row) rows = slice_set rows place row
rows_after (Take place) rows = remove rows place
rows_after (Move place to row) rows = insert (remove rows place) to row
rows_after (Whole all) rows = all.items

-- It can be made of rows in memory that has room for so many: there is room for those that come,
-- and its places are there.
abbrev pub FitsRows : RowChange → List Row → ℕ → Type 0
FitsRows (Add more) rows room = length rows + vec_len more ≤ room
FitsRows (Put place row) rows room = place < length rows
FitsRows (Take place) rows room = place < length rows
FitsRows (Move place to row) rows room =
    (place < length rows) × (to ≤ length (remove rows place))
FitsRows change rows room = ⊤

-- What is kept in memory after it.
abbrev pub memory_after : Next → Contents → Memory
memory_after next contents = record {
  layout = next.layout;
  rows = rows_after next.rows contents.rows.items;
  numbers = next.numbers;
  searches = next.searches;
  sets = next.sets;
  firsts = next.firsts;
}
