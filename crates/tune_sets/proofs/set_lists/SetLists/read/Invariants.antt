use Rattle.std.proofs.Common.{◌≡◌, ◌++◌, length, List}
use Rattle.tune_sets.specs.declared.set_lists.TuneSet.{TuneSet}
use Rattle.tune_sets.specs.Sets.{AreSetLists}
use Rattle.tune_sets.specs.SetBytes.{written_sets}
use Rattle.tune_sets.proofs.ByteLemmas.{GoOn}
use Rattle.tune_sets.proofs.set_lists.SetLists.read.Given as goal

abbrev pub invariant-loop-rest : goal.invariant-loop-rest
invariant-loop-rest l = record {
  same : written_sets l.lists ++ l.rest ≡ l.bytes;
  only : (sets : List TuneSet) → AreSetLists sets → written_sets sets ≡ l.bytes → GoOn l.lists l.rest sets;
}

abbrev pub decreases-loop-rest : goal.decreases-loop-rest
decreases-loop-rest l = length l.rest
