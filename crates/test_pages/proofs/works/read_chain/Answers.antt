use Rattle.test_pages.proofs.Never.{never_honest}
use Rattle.test_pages.proofs.works.read_chain.Goals as goal

pub read_chain-requires-clause-chain : goal.read_chain-requires-clause-chain
read_chain-requires-clause-chain c = λ h. absurd (never_honest _ h)
