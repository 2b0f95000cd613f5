use Rattle.std.proofs.Common.{◌≡◌, ◌+◌, ◌++◌, drop}
use Rattle.tune_changes.specs.Planning.{without_places}
use Rattle.tune_changes.proofs.set_turns.without_places.Given as goal

abbrev pub invariant-loop-index : goal.invariant-loop-index
invariant-loop-index l = without_places l.places 1 l.numbers ≡ l.left.items ++ without_places l.places (l.index + 1) (drop l.index l.numbers)
