use Rattle.tune_pages.proofs.Claiming.{fault_of_all}
use Rattle.tune_pages.proofs.opening.Opening.claim_chain.Goals as goal

pub returns-clause-damaged : goal.returns-clause-damaged
returns-clause-damaged g c =
    fault_of_all c.claim_chain_within.result _ c.args.self.now.pages c.args.self.now.claimed c.args.first c.count-most.result
    c.count-most.ensures.marks c.claim_chain_within.ensures.damaged
