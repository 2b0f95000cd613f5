use Rattle.tune_contents.proofs.ClaimedRowLemmas.{numbers_increase}
use Rattle.tune_contents.proofs.claiming.search_claims.Goals as goal

pub new-requires-clause-rising : goal.new-requires-clause-rising
new-requires-clause-rising c = numbers_increase _ _ c.in-Ok.ensures c.requires
