use Rattle.std.proofs.Common.{ℕ, ◌<◌, ◌≤◌, IsSome}
use Rattle.tune_journal.specs.ChangeList.{image_of}
use Rattle.test_journal.proofs.commits.has_all.Given as goal

abbrev pub invariant-loop-page : goal.invariant-loop-page
invariant-loop-page l = (p : ℕ) → l.from ≤ p → p < l.page → IsSome (image_of p l.changes)
