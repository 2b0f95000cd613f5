use Rattle.std.specs.List.{AllWithin}
use Rattle.tune_contents.specs.Inside.ClaimedRows.{HasNumber}
use Rattle.tune_contents.proofs.claiming.are_numbers.Given as goal

abbrev pub invariant-loop-number : goal.invariant-loop-number
invariant-loop-number l = AllWithin (HasNumber l.rows) l.numbers 0 l.number-index
