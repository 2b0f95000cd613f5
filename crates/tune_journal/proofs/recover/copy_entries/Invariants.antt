use Rattle.std.proofs.Common.{◌≡◌}
use Rattle.tune_disk.specs.Inside.Spares.{SparesOffsets}
use Rattle.tune_journal.specs.Image.{entries, pages_of}
use Rattle.tune_journal.specs.Inside.Looking.{HasEntries, least_of}
use Rattle.tune_journal.specs.Inside.Phases.{IsInNoPage}
use Rattle.tune_journal.specs.Pages.{changed_pages}
use Rattle.tune_journal.proofs.recover.copy_entries.Given as goal

abbrev pub invariant-loop-entry : goal.invariant-loop-entry
invariant-loop-entry g l = record {
  honest : g.D.Disk.honest l.disk → g.D.Disk.honest l.initial.disk;
  spares : g.D.Disk.honest l.disk → HasEntries l.count l.entries (g.D.Disk.state l.initial.disk).seen
      → SparesOffsets (IsInNoPage (entries l.count l.entries (g.D.Disk.state l.initial.disk).seen)) (g.D.Disk.state l.initial.disk) (g.D.Disk.state l.disk);
  images : g.D.Disk.honest l.disk → HasEntries l.count l.entries (g.D.Disk.state l.initial.disk).seen
      → pages_of l.count (g.D.Disk.state l.disk).seen
      ≡ changed_pages (pages_of l.count (g.D.Disk.state l.initial.disk).seen) (entries l.count l.entry (g.D.Disk.state l.initial.disk).seen);
  least : g.D.Disk.honest l.disk → HasEntries l.count l.entries (g.D.Disk.state l.initial.disk).seen
      → l.least ≡ least_of l.count l.entry (g.D.Disk.state l.initial.disk).seen;
  failures : g.D.Disk.failures l.disk ≡ g.D.Disk.failures l.initial.disk;
}
