use Rattle.std.proofs.Common.{◌≡◌, drop}
use Rattle.std.specs.List.{list_any}
use Rattle.desk_changes.specs.Inside.HeldTunes.{have_brought}
use Rattle.desk_changes.specs.Inside.TriedUndoings.{steps_of}
use Rattle.desk_changes.proofs.held_tunes.has_brought.Given as goal

abbrev pub invariant-loop-number : goal.invariant-loop-number
invariant-loop-number l =
    list_any (have_brought (steps_of l.changes)) l.numbers ≡ list_any (have_brought (steps_of l.changes)) (drop l.number-index l.numbers)
