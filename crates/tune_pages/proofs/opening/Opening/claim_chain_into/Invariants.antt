use Rattle.std.proofs.Common.{◌≡◌, ◌-◌, ◌≤◌, not, length}
use Rattle.std.specs.List.{count_by}
use Rattle.tune_pages.proofs.Claiming.{Walked}
use Rattle.tune_pages.proofs.opening.Opening.claim_chain_into.Given as goal

abbrev pub invariant-loop-page : goal.invariant-loop-page
invariant-loop-page g l = record {
  honest : g.D.Disk.honest l.self.disk → g.D.Disk.honest l.initial.self.disk;
  same : g.D.Disk.honest l.self.disk → g.D.Disk.state l.self.disk ≡ g.D.Disk.state l.initial.self.disk;
  pages : g.D.Disk.honest l.self.disk → l.self.pages ≡ l.initial.self.pages;
  count : length l.self.pages ≡ length l.initial.self.pages;
  failures : g.D.Disk.failures l.self.disk ≡ g.D.Disk.failures l.initial.self.disk;
  walk : g.D.Disk.honest l.self.disk → Walked l.initial.self.pages l.initial.self.claimed l.first l.page (l.most - l.left) l.bytes.items l.self.claimed;
  few : l.left ≤ l.most;
}

abbrev pub decreases-loop-page : goal.decreases-loop-page
decreases-loop-page g l = count_by not l.self.claimed
