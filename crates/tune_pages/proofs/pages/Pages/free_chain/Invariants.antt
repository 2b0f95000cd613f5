use Rattle.std.proofs.Common.{◌≡◌}
use Rattle.std.specs.List.{count_by}
use Rattle.tune_pages.specs.Kept.{HonestAt}
use Rattle.tune_pages.specs.Work.{stand, Fits, IsIdle}
use Rattle.tune_pages.proofs.Looking.{Looked}
use Rattle.tune_pages.proofs.Walks.{FreeWalk}
use Rattle.tune_pages.proofs.pages.Pages.free_chain.Given as goal

abbrev pub invariant-loop-page : goal.invariant-loop-page
invariant-loop-page g l = record {
  looked : Looked g.D.Disk.honest g.D.Disk.failures g.D.Disk.state l.fn.self l.self;
  fits : Fits l.self l.work;
  none : l.first ≡ 0 → (l.page ≡ 0) × (l.self ≡ l.fn.self) × (l.work ≡ l.fn.work);
  idle : IsIdle l.fn.work → IsIdle l.work;
  walk : HonestAt g.D.Disk.honest l.self.disk → FreeWalk (stand l.fn.self l.fn.work) (stand l.self l.work) l.first l.page;
}

abbrev pub decreases-loop-page : goal.decreases-loop-page
decreases-loop-page g l = count_by (λ b. b) (stand l.self l.work).used
