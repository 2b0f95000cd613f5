use Rattle.std.proofs.Common.{◌≡◌, ◌++◌, take}
use Rattle.index_keys.specs.Entries.{AllFit, IsRising, values_within}
use Rattle.tune_index.specs.Leaves.{entries_in}
use Rattle.tune_index.proofs.leaf.add_values.Given as goal

abbrev pub invariant-loop-place : goal.invariant-loop-place
invariant-loop-place g l =
    let es = entries_in g.row.W l.fn.count l.fn.bytes in
    IsRising es → AllFit g.row.W es → l.values.items ≡ l.initial.values.items ++ values_within l.low l.high (take l.place es)
