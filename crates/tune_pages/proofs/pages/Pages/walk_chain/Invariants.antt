use Rattle.std.proofs.Common.{◌≡◌, []}
use Rattle.tune_pages.specs.Kept.{HonestAt}
use Rattle.tune_pages.specs.Work.{stand, Fits}
use Rattle.tune_pages.proofs.Looking.{Looked}
use Rattle.tune_pages.proofs.Walks.{ReadWalk}
use Rattle.tune_pages.proofs.pages.Pages.walk_chain.Given as goal

abbrev pub invariant-loop-page : goal.invariant-loop-page
invariant-loop-page g l = record {
  looked : Looked g.D.Disk.honest g.D.Disk.failures g.D.Disk.state l.fn.self l.self;
  fits : Fits l.self l.work;
  none : l.first ≡ 0 → (l.page ≡ 0) × (l.bytes.items ≡ []) × (l.self ≡ l.fn.self);
  walk : HonestAt g.D.Disk.honest l.self.disk → ReadWalk (stand l.fn.self l.work) l.first l.page l.bytes.items l.left;
}

abbrev pub decreases-loop-page : goal.decreases-loop-page
decreases-loop-page g l = l.left
