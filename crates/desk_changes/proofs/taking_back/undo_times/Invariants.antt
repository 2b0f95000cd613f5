use Rattle.std.proofs.Common.{◌≤◌, length, string_bytes}
use Rattle.desk_changes.specs.Inside.Works.{WorksBeside}
use Rattle.desk_changes.proofs.UndoLemmas.{BackTo}
use Rattle.desk_changes.proofs.WorkLemmas.{course_of}
use Rattle.desk_changes.proofs.taking_back.undo_times.Given as goal

abbrev pub invariant-loop-wanted : goal.invariant-loop-wanted
invariant-loop-wanted g l = record {
  within : l.left ≤ length l.fn.last.changes.now;
  works : WorksBeside g.D.Disk (string_bytes l.file) (course_of g.D.Disk (string_bytes l.file) l.fn.archive l.archive
      (g.K.Desk.deeds l.fn.desk) (g.K.Desk.deeds l.desk));
  so : BackTo g.D.Disk (string_bytes l.file) l.fn.last.changes.now l.left l.wanted l.fn.last.count l.fn.told.items l.told.items
      (course_of g.D.Disk (string_bytes l.file) l.fn.archive l.archive (g.K.Desk.deeds l.fn.desk) (g.K.Desk.deeds l.desk));
}

abbrev pub decreases-loop-wanted : goal.decreases-loop-wanted
decreases-loop-wanted g l = l.left
