use Rattle.std.proofs.Common.{arith}
use Rattle.tune_pages.proofs.Claiming.{fault_as}
use Rattle.tune_contents.proofs.ClaimLemmas.{ok_as, err_as}
use Rattle.tune_contents.proofs.ClaimIndexLemmas.{search_claimed, search_stored}
use Rattle.tune_contents.proofs.claiming.claim_searches.Goals as goal

pub returns-clause-claims : goal.returns-clause-claims
returns-clause-claims g c = ok_as c.load.result _ _
    (λ loaded got h front has. search_claimed _ _ _ _ _ _ _ front (omega arith) has (got h)) c.load.ensures.loads

pub returns-clause-damaged : goal.returns-clause-damaged
returns-clause-damaged g c = err_as c.load.result _ _
    (λ fault none h front has. fault_as fault _ _ (search_stored _ _ _ _ _ front has) (none h)) c.load.ensures.damaged
