use Rattle.std.proofs.Common.{◌≡◌}
use Rattle.std.specs.Vec.{vec_capacity}
use Rattle.tune_pages.specs.Work.{front_in_use}
use Rattle.tune_pages.proofs.page_marks.mark_front.Given as goal

abbrev pub invariant-loop-page : goal.invariant-loop-page
invariant-loop-page l = (l.written.items ≡ front_in_use l.page l.initial.written.items) × (vec_capacity l.written ≡ vec_capacity l.initial.written)
