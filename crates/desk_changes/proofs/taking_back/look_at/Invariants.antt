use Rattle.std.proofs.Common.{drop}
use Rattle.desk_changes.proofs.LookingLemmas.{Standing}
use Rattle.desk_changes.proofs.taking_back.look_at.Given as goal

abbrev pub invariant-loop-change : goal.invariant-loop-change
invariant-loop-change g l = Standing g.S.TuneStore l.fn.store l.store l.changes (drop l.change-index l.changes)
