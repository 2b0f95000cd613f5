use Rattle.std.proofs.Common.{◌≡◌, drop}
use Rattle.desk_changes.specs.ToldChanges.{last_of}
use Rattle.desk_changes.proofs.change_subjects.last_of.Given as goal

abbrev pub invariant-loop-number : goal.invariant-loop-number
invariant-loop-number l = last_of l.last (drop l.number-index l.rest) ≡ last_of l.first l.rest
