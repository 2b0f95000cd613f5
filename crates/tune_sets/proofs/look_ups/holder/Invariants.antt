use Rattle.std.proofs.Common.{◌≡◌, drop}
use Rattle.tune_sets.specs.Sets.{holder}
use Rattle.tune_sets.proofs.look_ups.holder.Given as goal

abbrev pub invariant-loop-set : goal.invariant-loop-set
invariant-loop-set l = holder l.number (drop l.set-index l.sets) ≡ holder l.number l.sets
