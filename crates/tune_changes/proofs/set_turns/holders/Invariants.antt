use Rattle.std.proofs.Common.{◌≡◌, map, take}
use Rattle.tune_sets.specs.Sets.{holder}
use Rattle.tune_changes.proofs.set_turns.holders.Given as goal

abbrev pub invariant-loop-number : goal.invariant-loop-number
invariant-loop-number l = l.names.items ≡ map (λ number. holder number l.sets) (take l.number-index l.numbers)
