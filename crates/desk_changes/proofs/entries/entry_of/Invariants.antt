use Rattle.std.proofs.Common.{◌≡◌, ◌++◌, drop, map}
use Rattle.desk_changes.specs.EntriesOfTurns.{part_of}
use Rattle.desk_changes.proofs.entries.entry_of.Given as goal

abbrev pub invariant-loop-turn : goal.invariant-loop-turn
invariant-loop-turn l = map part_of l.turns ≡ l.parts.items ++ map part_of (drop l.turn-index l.turns)
