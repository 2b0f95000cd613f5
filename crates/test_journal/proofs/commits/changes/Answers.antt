use Rattle.std.proofs.Common.{arith}
use Rattle.tune_journal.proofs.Puts.{below_with}
use Rattle.test_journal.proofs.commits.changes.Goals as goal

pub loop-page-preserved : goal.loop-page-preserved
loop-page-preserved c = rw c.in_ok-put.ensures.ok (below_with _ _ _ _ (omega arith) c.loop-page.invariant)
