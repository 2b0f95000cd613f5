use Rattle.std.proofs.Common.{◌≡◌}
use Rattle.tune_sets.specs.Numbers.{renumbered}
use Rattle.tune_sets.proofs.ChangeLemmas.{mapped_to}
use Rattle.tune_sets.proofs.number_list.renumber_all.Given as goal

abbrev pub invariant-loop-i : goal.invariant-loop-i
invariant-loop-i l = l.numbers ≡ mapped_to (renumbered l.from l.to) l.i l.fn.numbers
