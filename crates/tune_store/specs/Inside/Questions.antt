-- Rows of titles in order, as a reply has them.
use Rattle.std.specs.Prelude.{Some}
use Rattle.tune_titles.specs.ShownRows.{Shown}
use Rattle.tune_store.specs.declared.index_rows.IndexRow.{IndexRow}

-- the number and the title alone
abbrev pub shown_title : Shown → IndexRow
shown_title row = record { number = row.number; title = Some row.title }
