use Rattle.std.proofs.Common.{◌≡◌, ◌++◌, drop}
use Rattle.desk_changes.specs.ToldChanges.{part_tunes}
use Rattle.desk_changes.specs.ToldUndoings.{sets_back, tunes_out}
use Rattle.desk_changes.specs.Inside.Telling.{span_out}
use Rattle.desk_changes.proofs.telling.tell_loaded.Given as goal

abbrev pub invariant-loop-part : goal.invariant-loop-part
invariant-loop-part l = record {
  sets : l.told.items ++ sets_back (drop l.part-index l.parts) ≡ l.fn.told.items ++ sets_back l.parts;
  tunes : span_out l.span (part_tunes (drop l.part-index l.parts)) ≡ tunes_out (part_tunes l.parts);
}
