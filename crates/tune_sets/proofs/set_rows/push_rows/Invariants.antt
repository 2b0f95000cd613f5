use Rattle.std.proofs.Common.{◌≡◌, ◌++◌, drop}
use Rattle.tune_sets.specs.Calls.{set_rows_of}
use Rattle.tune_sets.proofs.set_rows.push_rows.Given as goal

abbrev pub invariant-loop-set : goal.invariant-loop-set
invariant-loop-set l = l.rows.items ++ set_rows_of (drop l.set-index l.sets) ≡ l.fn.rows.items ++ set_rows_of l.sets
