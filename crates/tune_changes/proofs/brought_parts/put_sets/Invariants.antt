use Rattle.std.proofs.Common.{◌≡◌, ◌++◌, drop, map}
use Rattle.tune_changes.specs.BroughtParts.{set_comes}
use Rattle.tune_changes.proofs.brought_parts.put_sets.Given as goal

abbrev pub invariant-loop-set : goal.invariant-loop-set
invariant-loop-set l = l.parts.items ++ map set_comes (drop l.set-index l.sets) ≡ l.fn.parts.items ++ map set_comes l.sets
