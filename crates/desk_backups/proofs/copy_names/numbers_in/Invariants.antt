use Rattle.std.proofs.Common.{map, take, string_bytes}
use Rattle.desk_backups.specs.Inside.Numbering.{AreNumbered}
use Rattle.desk_backups.proofs.copy_names.numbers_in.Given as goal

abbrev pub invariant-loop-name : goal.invariant-loop-name
invariant-loop-name l = AreNumbered l.last (map string_bytes (take l.name-index l.names)) l.numbers.items
