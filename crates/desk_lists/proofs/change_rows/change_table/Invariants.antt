use Rattle.std.proofs.Common.{◌≡◌, ◌++◌, drop}
use Rattle.desk_lists.specs.ChangeRows.{change_records, change_table}
use Rattle.desk_lists.specs.Inside.OpenTables.{IsOpenTable, table_bytes}
use Rattle.desk_lists.proofs.change_rows.change_table.Given as goal

abbrev pub invariant-loop-row : goal.invariant-loop-row
invariant-loop-row l = record {
  bytes : table_bytes l.table ++ change_records (drop l.row-index l.rows) ≡ change_table l.rows;
  is_open : IsOpenTable l.table;
}
