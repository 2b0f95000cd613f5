use Rattle.std.proofs.Common.{◌≡◌, ◌*◌, take}
use Rattle.tune_sets.specs.SetBytes.{written_numbers}
use Rattle.tune_sets.proofs.ChangeLemmas.{Narrow}
use Rattle.tune_sets.proofs.reading.read_numbers.Given as goal

abbrev pub invariant-loop-i : goal.invariant-loop-i
invariant-loop-i l = record { read : written_numbers l.numbers.items ≡ take (4 * l.i) l.bytes; narrow : Narrow l.numbers.items }
