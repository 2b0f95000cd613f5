use Rattle.std.proofs.Common.{◌≤◌, length, drop, string_bytes}
use Rattle.desk_changes.specs.Inside.Telling.{Tells}
use Rattle.desk_changes.specs.Inside.TriedUndoings.{steps_of}
use Rattle.desk_changes.specs.TakenBack.{UndoesEntries}
use Rattle.desk_changes.specs.Inside.Works.{WorksBeside}
use Rattle.desk_changes.proofs.WorkLemmas.{course_of}
use Rattle.desk_changes.proofs.taking_back.undo_entries.Given as goal

abbrev pub invariant-loop-left : goal.invariant-loop-left
invariant-loop-left g l = record {
  within : l.left ≤ length l.changes;
  works : WorksBeside g.D.Disk (string_bytes l.file) (course_of g.D.Disk (string_bytes l.file) l.fn.archive l.archive
      (g.K.Desk.deeds l.fn.desk) (g.K.Desk.deeds l.desk));
  undone : Tells (record { was = l.fn.told.items; now = l.told.items })
      (λ more. UndoesEntries g.D.Disk (string_bytes l.file) (steps_of (drop l.left l.changes)) l.took_place more
      (course_of g.D.Disk (string_bytes l.file) l.fn.archive l.archive (g.K.Desk.deeds l.fn.desk) (g.K.Desk.deeds l.desk)));
}

abbrev pub decreases-loop-left : goal.decreases-loop-left
decreases-loop-left g l = l.left
