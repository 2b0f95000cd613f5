use Rattle.test_pages.proofs.Never.{never_honest}
use Rattle.test_pages.proofs.works.free_chain.Goals as goal

pub free_chain-requires-clause-chain : goal.free_chain-requires-clause-chain
free_chain-requires-clause-chain c = λ h. absurd (never_honest _ h)
