use Rattle.std.proofs.Common.{drop}
use Rattle.tune_contents.proofs.RowTests.{RiseSoFar}
use Rattle.tune_contents.proofs.tune_rows.are_rows.Given as goal

abbrev pub invariant-loop-place : goal.invariant-loop-place
invariant-loop-place l = RiseSoFar l.rows.items l.low (drop l.place l.rows.items)
