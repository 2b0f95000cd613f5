use Rattle.std.proofs.Common.{◌≡◌, drop}
use Rattle.desk_changes.specs.Inside.HeldTunes.{have_turned}
use Rattle.desk_changes.specs.Inside.TriedUndoings.{steps_of}
use Rattle.desk_changes.proofs.held_tunes.have_turned.Given as goal

abbrev pub invariant-loop-change : goal.invariant-loop-change
invariant-loop-change l = have_turned (steps_of l.changes) l.name ≡ have_turned (steps_of (drop l.change-index l.changes)) l.name
