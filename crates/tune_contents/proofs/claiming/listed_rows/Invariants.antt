use Rattle.std.proofs.Common.{drop}
use Rattle.tune_contents.specs.Inside.ClaimedRows.{RowsSoFar}
use Rattle.tune_contents.proofs.claiming.listed_rows.Given as goal

abbrev pub invariant-loop-entry : goal.invariant-loop-entry
invariant-loop-entry l = RowsSoFar l.tunes l.rows.items l.low (drop l.entry-index l.tunes)
