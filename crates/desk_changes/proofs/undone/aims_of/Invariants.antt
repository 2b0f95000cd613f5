use Rattle.std.proofs.Common.{◌≡◌, ◌++◌, drop, map}
use Rattle.desk_changes.specs.TakenBack.{aim_by}
use Rattle.desk_changes.proofs.undone.aims_of.Given as goal

abbrev pub invariant-loop-part : goal.invariant-loop-part
invariant-loop-part l = map aim_by l.parts ≡ l.aims.items ++ map aim_by (drop l.part-index l.parts)
