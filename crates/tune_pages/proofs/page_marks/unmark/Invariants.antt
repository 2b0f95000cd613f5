use Rattle.std.proofs.Common.{◌≡◌, take, false}
use Rattle.std.specs.Vec.{vec_capacity}
use Rattle.tune_pages.specs.Stand.{marked}
use Rattle.tune_pages.proofs.page_marks.unmark.Given as goal

abbrev pub invariant-loop-page : goal.invariant-loop-page
invariant-loop-page l = (l.written.items ≡ marked false (take l.page-index l.freed) l.initial.written.items)
    × (vec_capacity l.written ≡ vec_capacity l.initial.written)
