use Rattle.std.proofs.Common.{◌≡◌, ◌++◌, map, take}
use Rattle.std.specs.Prelude.{filter}
use Rattle.tune_store.specs.declared.index_rows.IndexRow.{IndexRow}
use Rattle.desk_questions.specs.Inside.QuestionCalls.{has_row_title}
use Rattle.desk_questions.proofs.found_numbers.add_titled.Given as goal

abbrev pub invariant-loop-row : goal.invariant-loop-row
invariant-loop-row l = l.numbers.items
    ≡ l.fn.numbers.items ++ map (λ (row : IndexRow). row.number) (filter (has_row_title l.condition) (take l.row-index l.rows))
