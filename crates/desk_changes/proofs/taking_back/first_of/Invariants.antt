use Rattle.std.proofs.Common.{◌≤◌, length, drop}
use Rattle.desk_changes.specs.Inside.TriedUndoings.{steps_of}
use Rattle.desk_changes.proofs.BookLemmas.{AreFurther}
use Rattle.desk_changes.proofs.taking_back.first_of.Given as goal

abbrev pub invariant-loop-first : goal.invariant-loop-first
invariant-loop-first l = record {
  within : l.first ≤ length l.changes;
  further : AreFurther (steps_of (drop l.first l.changes));
}

abbrev pub decreases-loop-first : goal.decreases-loop-first
decreases-loop-first l = l.first
