use Rattle.std.proofs.Common.{◌≡◌, ◌++◌, Ok, map, take}
use Rattle.tune_store.specs.declared.index_rows.IndexRow.{IndexRow}
use Rattle.desk_questions.specs.Dumps.{set_dump_commands, script_bytes}
use Rattle.desk_questions.proofs.dumps.put_set.Given as goal

abbrev pub invariant-loop-row : goal.invariant-loop-row
invariant-loop-row l = l.script.items
    ≡ l.fn.script.items ++ script_bytes (set_dump_commands l.name (Ok (map (λ (row : IndexRow). row.number) (take l.row-index l.rows))))
