use Rattle.std.proofs.Common.{◌≡◌, ◌++◌, drop}
use Rattle.desk_changes.specs.Inside.TriedUndoings.{steps_of}
use Rattle.desk_changes.specs.ToldChanges.{change_sets, change_tunes}
use Rattle.desk_changes.proofs.change_subjects.subjects_of.Given as goal

abbrev pub invariant-loop-step : goal.invariant-loop-step
invariant-loop-step l = record {
  tunes : l.subjects.tunes.items ++ change_tunes (steps_of (drop l.step-index l.change)) ≡ change_tunes (steps_of l.change);
  sets : l.subjects.sets.items ++ change_sets (steps_of (drop l.step-index l.change)) ≡ change_sets (steps_of l.change);
}
