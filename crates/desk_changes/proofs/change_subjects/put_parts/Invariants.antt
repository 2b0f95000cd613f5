use Rattle.std.proofs.Common.{◌≡◌, ◌++◌, drop}
use Rattle.desk_changes.specs.ToldChanges.{part_sets, part_tunes}
use Rattle.desk_changes.proofs.change_subjects.put_parts.Given as goal

abbrev pub invariant-loop-part : goal.invariant-loop-part
invariant-loop-part l = record {
  tunes : l.subjects.tunes.items ++ part_tunes (drop l.part-index l.parts) ≡ l.fn.subjects.tunes.items ++ part_tunes l.parts;
  sets : l.subjects.sets.items ++ part_sets (drop l.part-index l.parts) ≡ l.fn.subjects.sets.items ++ part_sets l.parts;
}
