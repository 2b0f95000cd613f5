use Rattle.std.proofs.Common.{map, drop}
use Rattle.tune_store.specs.declared.command.Command.TheVariants.{SetAdd}
use Rattle.tune_changes.proofs.CarryLemmas.{Partly}
use Rattle.tune_changes.proofs.set_bringing.add_numbers.Given as goal

abbrev pub invariant-loop-number : goal.invariant-loop-number
invariant-loop-number g l =
    Partly g.S.TuneStore l.fn.store l.store (map (SetAdd l.name) l.numbers) (map (SetAdd l.name) (drop l.number-index l.numbers))
