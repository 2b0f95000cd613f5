use Rattle.std.proofs.Common.{◌<◌, All}
use Rattle.test_journal.proofs.commits.changes.Given as goal

abbrev pub invariant-loop-page : goal.invariant-loop-page
invariant-loop-page l = All (λ change. change.0 < l.count) l.changes
