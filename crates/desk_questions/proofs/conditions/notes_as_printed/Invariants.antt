use Rattle.std.proofs.Common.{◌≡◌, false, map, take}
use Rattle.std.specs.List.{list_any}
use Rattle.desk_questions.specs.Conditions.{notes_query, signatures, is_query_too_long}
use Rattle.desk_questions.proofs.conditions.notes_as_printed.Given as goal

abbrev pub invariant-loop-key : goal.invariant-loop-key
invariant-loop-key l = record {
  made : l.queries.items ≡ map (λ key. notes_query key l.notes) (take l.key-index signatures);
  short : list_any is_query_too_long (map (λ key. notes_query key l.notes) (take l.key-index signatures)) ≡ false;
}
