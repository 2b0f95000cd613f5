use Rattle.std.proofs.Common.{◌≡◌, drop, map}
use Rattle.std.specs.List.{list_any}
use Rattle.desk_words.specs.SoughtConditions.{is_noted, sought_by}
use Rattle.desk_words.proofs.sought_conditions.has_notes.Given as goal

abbrev pub invariant-loop-condition : goal.invariant-loop-condition
invariant-loop-condition l = list_any is_noted (map sought_by (drop l.condition-index l.all)) ≡ list_any is_noted (map sought_by l.all)
