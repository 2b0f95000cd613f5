use Rattle.std.proofs.Common.{◌≡◌, ◌≤◌, length}
use Rattle.tune_journal.specs.Image.{entry_offset}
use Rattle.tune_journal.specs.Inside.Looking.{Climbs, least_of}
use Rattle.tune_journal.proofs.look.check_log.Given as goal

abbrev pub invariant-loop-entry : goal.invariant-loop-entry
invariant-loop-entry g l = record {
  honest : g.D.Disk.honest l.disk → g.D.Disk.honest l.initial.disk;
  state : g.D.Disk.honest l.disk → g.D.Disk.state l.disk ≡ g.D.Disk.state l.initial.disk;
  failures : g.D.Disk.failures l.disk ≡ g.D.Disk.failures l.initial.disk;
  least : g.D.Disk.honest l.disk → entry_offset l.count l.entries ≤ length (g.D.Disk.state l.initial.disk).seen
      → l.least ≡ least_of l.count l.entry (g.D.Disk.state l.initial.disk).seen;
  climbs : g.D.Disk.honest l.disk → entry_offset l.count l.entries ≤ length (g.D.Disk.state l.initial.disk).seen
      → Climbs l.count l.entry (g.D.Disk.state l.initial.disk).seen;
}
