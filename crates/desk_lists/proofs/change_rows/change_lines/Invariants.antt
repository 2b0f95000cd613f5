use Rattle.std.proofs.Common.{◌≡◌, ◌++◌, drop}
use Rattle.desk_lists.specs.ChangeRows.{change_rows_bytes}
use Rattle.desk_lists.proofs.change_rows.change_lines.Given as goal

abbrev pub invariant-loop-row : goal.invariant-loop-row
invariant-loop-row l = l.out.items ++ change_rows_bytes (drop l.row-index l.rows) ≡ change_rows_bytes l.rows
