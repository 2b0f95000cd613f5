use Rattle.std.proofs.Common.{◌-◌, replicate}
use Rattle.tune_store.specs.declared.command.Command.TheVariants.{SetCut}
use Rattle.tune_changes.proofs.CarryLemmas.{Partly}
use Rattle.tune_changes.proofs.set_bringing.cut_times.Given as goal

abbrev pub invariant-loop-time : goal.invariant-loop-time
invariant-loop-time g l =
    Partly g.S.TuneStore l.fn.store l.store (replicate l.times (SetCut l.name l.place)) (replicate (l.times - l._time) (SetCut l.name l.place))
