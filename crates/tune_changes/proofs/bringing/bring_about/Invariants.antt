use Rattle.std.proofs.Common.{drop}
use Rattle.tune_changes.specs.Aims.{brought_about}
use Rattle.tune_changes.proofs.CarryLemmas.{Partly}
use Rattle.tune_changes.proofs.bringing.bring_about.Given as goal

abbrev pub invariant-loop-turn : goal.invariant-loop-turn
invariant-loop-turn g l =
    Partly g.S.TuneStore l.fn.store l.store (brought_about l.turns (g.S.TuneStore.state l.fn.store))
    (brought_about (drop l.turn-index l.turns) (g.S.TuneStore.state l.store))
