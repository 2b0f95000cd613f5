use Rattle.std.proofs.Common.{◌≡◌, ◌++◌, drop}
use Rattle.tune_undo.specs.EntryBytes.{numbers_bytes}
use Rattle.desk_changes.proofs.change_subjects.put_numbers.Given as goal

abbrev pub invariant-loop-number : goal.invariant-loop-number
invariant-loop-number l = l.bytes.items ++ numbers_bytes (drop l.number-index l.numbers) ≡ l.fn.bytes.items ++ numbers_bytes l.numbers
