use Rattle.std.proofs.Common.{◌≡◌, ◌++◌, drop}
use Rattle.tune_scripts.specs.Replies.{set_rows_bytes}
use Rattle.desk_lists.proofs.row_lists.set_rows.Given as goal

abbrev pub invariant-loop-row : goal.invariant-loop-row
invariant-loop-row l = l.out.items ++ set_rows_bytes (drop l.row-index l.rows) ≡ set_rows_bytes l.rows
