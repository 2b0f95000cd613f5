use Rattle.test_contents.proofs.Never.{never_honest}
use Rattle.test_contents.proofs.lays.finds_no_page.Goals as goal

pub lay-requires-clause-holds : goal.lay-requires-clause-holds
lay-requires-clause-holds g c = λ h. absurd (never_honest _ g.met.D.TestDisk.never _ h)
