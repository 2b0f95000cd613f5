use Rattle.std.proofs.Common.{◌≡◌, ◌++◌, drop}
use Rattle.desk_changes.specs.ToldUndoings.{parts_back}
use Rattle.desk_changes.proofs.telling.tell_back.Given as goal

abbrev pub invariant-loop-part : goal.invariant-loop-part
invariant-loop-part l = l.told.items ++ parts_back (drop l.part-index l.parts) ≡ l.fn.told.items ++ parts_back l.parts
