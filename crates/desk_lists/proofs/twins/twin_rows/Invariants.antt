use Rattle.std.proofs.Common.{◌≡◌, ◌++◌, drop}
use Rattle.desk_lists.specs.Twins.{twin_rows_bytes}
use Rattle.desk_lists.proofs.twins.twin_rows.Given as goal

abbrev pub invariant-loop-row : goal.invariant-loop-row
invariant-loop-row l = l.out.items ++ twin_rows_bytes (drop l.row-index l.rows) ≡ twin_rows_bytes l.rows
