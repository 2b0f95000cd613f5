use Rattle.std.proofs.Common.{◌≡◌, ◌+◌, ◌++◌, drop}
use Rattle.desk_lists.specs.CsvTables.{place_records, place_table}
use Rattle.desk_lists.specs.Inside.OpenTables.{IsOpenTable, table_bytes}
use Rattle.desk_lists.proofs.tables.place_table.Given as goal

abbrev pub invariant-loop-i : goal.invariant-loop-i
invariant-loop-i l = record {
  bytes : table_bytes l.table ++ place_records (l.i + 1) (drop l.i l.rows) ≡ place_table l.rows;
  is_open : IsOpenTable l.table;
}
