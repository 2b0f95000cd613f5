use Rattle.std.proofs.Common.{◌≡◌, take}
use Rattle.tune_index.specs.ListedLeaves.{listed_bytes}
use Rattle.tune_index.proofs.listed_leaves.write_numbers.Given as goal

abbrev pub invariant-loop-number : goal.invariant-loop-number
invariant-loop-number l = l.bytes.items ≡ listed_bytes (take l.number-index l.numbers)
