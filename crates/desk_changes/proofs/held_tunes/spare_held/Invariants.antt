use Rattle.std.proofs.Common.{◌≡◌, drop}
use Rattle.std.specs.List.{list_any}
use Rattle.desk_changes.specs.Inside.HeldTunes.{holds_back}
use Rattle.desk_changes.specs.Inside.TriedUndoings.{steps_of}
use Rattle.desk_changes.proofs.held_tunes.spare_held.Given as goal

-- the later set lists decide
abbrev pub invariant-loop-set : goal.invariant-loop-set
invariant-loop-set l =
    list_any (holds_back (steps_of l.changes)) l.sets ≡ list_any (holds_back (steps_of l.changes)) (drop l.set-index l.sets)
