use Rattle.std.proofs.Common.{length, ◌≤◌}
use Rattle.tune_search.proofs.LaidHeld.{LaidHeld}
use Rattle.tune_search.proofs.single_claims.lay_out.Given as goal

abbrev pub invariant-loop-at : goal.invariant-loop-at
invariant-loop-at l = record {
  within : l.at ≤ length l.entries;
  laid : LaidHeld l.numbers l.entries l.counts l.keys l.at;
}

abbrev pub decreases-loop-at : goal.decreases-loop-at
decreases-loop-at l = l.at
