use Rattle.std.proofs.Common.{◌≡◌}
use Rattle.tune_sets.specs.Sets.{renumbered_set}
use Rattle.tune_sets.proofs.ChangeLemmas.{mapped_to}
use Rattle.tune_sets.proofs.set_changes.renumber_sets.Given as goal

abbrev pub invariant-loop-i : goal.invariant-loop-i
invariant-loop-i l = l.sets.items ≡ mapped_to (renumbered_set l.from l.to) l.i l.fn.sets.items
