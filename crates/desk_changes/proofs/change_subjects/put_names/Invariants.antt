use Rattle.std.proofs.Common.{◌≡◌, ◌++◌, drop}
use Rattle.desk_changes.specs.ToldChanges.{name_bytes}
use Rattle.desk_changes.proofs.change_subjects.put_names.Given as goal

abbrev pub invariant-loop-name : goal.invariant-loop-name
invariant-loop-name l = l.bytes.items ++ name_bytes (drop l.name-index l.names) ≡ l.fn.bytes.items ++ name_bytes l.names
