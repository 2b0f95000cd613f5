use Rattle.std.proofs.Common.{take}
use Rattle.index_keys.specs.Entries.{AllFit}
use Rattle.tune_index.proofs.insert.check_run.Given as goal

abbrev pub invariant-loop-entry : goal.invariant-loop-entry
invariant-loop-entry g l = AllFit g.row.W (take l.entry-index l.run)
