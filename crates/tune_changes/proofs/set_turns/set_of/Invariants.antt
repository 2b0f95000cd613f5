use Rattle.std.proofs.Common.{◌≡◌, drop}
use Rattle.tune_sets.specs.Sets.{set_at}
use Rattle.tune_changes.proofs.set_turns.set_of.Given as goal

abbrev pub invariant-loop-set : goal.invariant-loop-set
invariant-loop-set l = set_at l.name l.sets ≡ set_at l.name (drop l.set-index l.sets)
