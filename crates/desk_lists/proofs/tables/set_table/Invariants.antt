use Rattle.std.proofs.Common.{◌≡◌, ◌++◌, drop}
use Rattle.desk_lists.specs.CsvTables.{set_records, set_table}
use Rattle.desk_lists.specs.Inside.OpenTables.{IsOpenTable, table_bytes}
use Rattle.desk_lists.proofs.tables.set_table.Given as goal

abbrev pub invariant-loop-row : goal.invariant-loop-row
invariant-loop-row l = record {
  bytes : table_bytes l.table ++ set_records (drop l.row-index l.rows) ≡ set_table l.rows;
  is_open : IsOpenTable l.table;
}
