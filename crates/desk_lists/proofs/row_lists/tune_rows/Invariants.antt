use Rattle.std.proofs.Common.{◌≡◌, ◌++◌, drop}
use Rattle.tune_scripts.specs.Replies.{rows_bytes}
use Rattle.desk_lists.proofs.row_lists.tune_rows.Given as goal

abbrev pub invariant-loop-row : goal.invariant-loop-row
invariant-loop-row l = l.out.items ++ rows_bytes (drop l.row-index l.rows) ≡ rows_bytes l.rows
