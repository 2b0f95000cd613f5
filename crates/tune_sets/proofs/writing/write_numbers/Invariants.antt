use Rattle.std.proofs.Common.{◌≡◌, ◌++◌, drop}
use Rattle.tune_sets.specs.SetBytes.{written_numbers}
use Rattle.tune_sets.proofs.writing.write_numbers.Given as goal

abbrev pub invariant-loop-number : goal.invariant-loop-number
invariant-loop-number l = l.bytes.items ++ written_numbers (drop l.number-index l.numbers) ≡ l.fn.bytes.items ++ written_numbers l.numbers
