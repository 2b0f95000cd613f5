use Rattle.std.proofs.Common.{◌≡◌, ◌++◌, drop}
use Rattle.desk_lists.specs.CsvTables.{tune_records, tune_table}
use Rattle.desk_lists.specs.Inside.OpenTables.{IsOpenTable, table_bytes}
use Rattle.desk_lists.proofs.tables.tune_table.Given as goal

abbrev pub invariant-loop-row : goal.invariant-loop-row
invariant-loop-row l = record {
  bytes : table_bytes l.table ++ tune_records (drop l.row-index l.rows) ≡ tune_table l.rows;
  is_open : IsOpenTable l.table;
}
