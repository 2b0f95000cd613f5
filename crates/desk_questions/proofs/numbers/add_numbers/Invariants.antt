use Rattle.std.proofs.Common.{◌≡◌, ◌++◌, map, take}
use Rattle.tune_store.specs.declared.index_rows.IndexRow.{IndexRow}
use Rattle.desk_questions.proofs.numbers.add_numbers.Given as goal

abbrev pub invariant-loop-row : goal.invariant-loop-row
invariant-loop-row l = l.numbers.items ≡ l.fn.numbers.items ++ map (λ (row : IndexRow). row.number) (take l.row-index l.rows)
