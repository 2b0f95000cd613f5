use Rattle.tune_search.proofs.ClaimLinks.{LinkedFrom}
use Rattle.tune_search.proofs.key_claims.link.Given as goal

abbrev pub invariant-loop-at : goal.invariant-loop-at
invariant-loop-at g l = LinkedFrom l.numbers l.entries l.firsts l.nexts l.at

abbrev pub decreases-loop-at : goal.decreases-loop-at
decreases-loop-at g l = l.at
