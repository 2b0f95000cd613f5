use Rattle.std.proofs.Common.{◌≡◌, ◌++◌, drop}
use Rattle.std.specs.List.{AllByRecursion}
use Rattle.tune_sets.specs.Sets.{IsTuneSet}
use Rattle.tune_sets.specs.SetBytes.{written_sets}
use Rattle.tune_sets.proofs.writing.write_sets.Given as goal

abbrev pub invariant-loop-set : goal.invariant-loop-set
invariant-loop-set l = record {
  written : l.bytes.items ++ written_sets (drop l.set-index l.sets) ≡ l.fn.bytes.items ++ written_sets l.sets;
  each : AllByRecursion IsTuneSet (drop l.set-index l.sets);
}
