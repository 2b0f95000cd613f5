use Rattle.tune_pages.proofs.Claiming.{fault_as}
use Rattle.tune_contents.proofs.ClaimLemmas.{on_ok_as, err_as, claims_part, part_claimable}
use Rattle.tune_contents.proofs.claiming.claim_part.Goals as goal

pub returns-clause-claims : goal.returns-clause-claims
returns-clause-claims g c = on_ok_as c.claim_chain_into.result _ _
    (λ got h front has. (let chain = got h in claims_part _ _ _ _ _ front (chain.0, chain.1, chain.2) has)) c.claim_chain_into.ensures.chain

pub returns-clause-damaged : goal.returns-clause-damaged
returns-clause-damaged g c = err_as c.claim_chain_into.result _ _
    (λ fault none h front has. fault_as fault _ _ (part_claimable _ _ _ _ front has) (none h)) c.claim_chain_into.ensures.damaged
