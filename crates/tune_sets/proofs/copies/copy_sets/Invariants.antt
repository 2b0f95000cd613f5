use Rattle.std.proofs.Common.{◌≡◌, ◌++◌, drop}
use Rattle.tune_sets.proofs.copies.copy_sets.Given as goal

abbrev pub invariant-loop-set : goal.invariant-loop-set
invariant-loop-set l = l.copies.items ++ drop l.set-index l.sets ≡ l.sets
