use Rattle.std.proofs.Common.{◌≡◌, drop}
use Rattle.desk_changes.specs.Inside.HeldTunes.{have_brought}
use Rattle.desk_changes.specs.Inside.TriedUndoings.{steps_of}
use Rattle.desk_changes.proofs.held_tunes.have_brought.Given as goal

abbrev pub invariant-loop-change : goal.invariant-loop-change
invariant-loop-change l = have_brought (steps_of l.changes) l.number ≡ have_brought (steps_of (drop l.change-index l.changes)) l.number
