use Rattle.std.proofs.Common.{◌≡◌, ◌+◌, ◌++◌, drop}
use Rattle.tune_scripts.specs.Replies.{places_bytes}
use Rattle.desk_lists.proofs.row_lists.place_rows.Given as goal

abbrev pub invariant-loop-i : goal.invariant-loop-i
invariant-loop-i l = l.out.items ++ places_bytes (l.i + 1) (drop l.i l.rows) ≡ places_bytes 1 l.rows
