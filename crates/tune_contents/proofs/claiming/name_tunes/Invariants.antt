use Rattle.std.specs.List.{AllWithin}
use Rattle.tune_contents.specs.Inside.ClaimedRows.{NumberRows}
use Rattle.tune_contents.proofs.claiming.name_tunes.Given as goal

abbrev pub invariant-loop-set : goal.invariant-loop-set
invariant-loop-set l = AllWithin (λ set. NumberRows l.rows set.numbers) l.sets 0 l.set-index
