use Rattle.tune_search.proofs.LaidKeys.{LaidIds}
use Rattle.tune_search.proofs.group_claims.lay_out_ids.Given as goal

abbrev pub invariant-loop-at : goal.invariant-loop-at
invariant-loop-at g l = LaidIds l.numbers l.entries l.counts l.ids l.at

abbrev pub decreases-loop-at : goal.decreases-loop-at
decreases-loop-at g l = l.at
