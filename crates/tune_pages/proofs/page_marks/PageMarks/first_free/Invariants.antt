use Rattle.std.proofs.Common.{ℕ, ◌<◌, ◌≤◌}
use Rattle.tune_pages.specs.Stand.{IsUsed}
use Rattle.tune_pages.proofs.page_marks.PageMarks.first_free.Given as goal

abbrev pub invariant-loop-page : goal.invariant-loop-page
invariant-loop-page l = (q : ℕ) → l.from ≤ q → q < l.page → IsUsed l.self-inside.written.items q
