use Rattle.std.proofs.Common.{◌≤◌, length, take}
use Rattle.tune_changes.specs.Aims.{aimed_back}
use Rattle.tune_changes.proofs.CarryLemmas.{Partly}
use Rattle.tune_changes.proofs.bringing.take_back.Given as goal

abbrev pub invariant-loop-left : goal.invariant-loop-left
invariant-loop-left g l = record {
  within : l.left ≤ length l.aims;
  partly : Partly g.S.TuneStore l.fn.store l.store (aimed_back l.aims (g.S.TuneStore.state l.fn.store))
      (aimed_back (take l.left l.aims) (g.S.TuneStore.state l.store));
}

abbrev pub decreases-loop-left : goal.decreases-loop-left
decreases-loop-left g l = l.left
