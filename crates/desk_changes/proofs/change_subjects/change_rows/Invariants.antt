use Rattle.std.proofs.Common.{◌≤◌, length}
use Rattle.desk_changes.proofs.BookLemmas.{RowsTo}
use Rattle.desk_changes.proofs.change_subjects.change_rows.Given as goal

abbrev pub invariant-loop-left : goal.invariant-loop-left
invariant-loop-left l = record {
  within : l.left ≤ length l.entries;
  so : RowsTo l.entries l.left l.rows.items;
}

abbrev pub decreases-loop-left : goal.decreases-loop-left
decreases-loop-left l = l.left
