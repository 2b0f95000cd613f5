use Rattle.std.proofs.Common.{◌≤◌}
use Rattle.tune_changes.specs.Bringing.{cut_behind}
use Rattle.tune_changes.proofs.CarryLemmas.{Partly}
use Rattle.tune_changes.proofs.set_bringing.cut_to.Given as goal

abbrev pub invariant-loop-left : goal.invariant-loop-left
invariant-loop-left g l = record {
  within : l.left ≤ l.places.more;
  partly : Partly g.S.TuneStore l.fn.store l.store (cut_behind l.name l.places.kept l.places.more) (cut_behind l.name l.places.kept l.left);
}

abbrev pub decreases-loop-left : goal.decreases-loop-left
decreases-loop-left g l = l.left
