use Rattle.std.proofs.Common.{◌≡◌, take}
use Rattle.tune_contents.specs.Inside.TuneRows.{numbers_of_rows}
use Rattle.tune_contents.proofs.claiming.numbers_of.Given as goal

abbrev pub invariant-loop-row : goal.invariant-loop-row
invariant-loop-row l = l.numbers.items ≡ take l.row-index (numbers_of_rows l.rows)
