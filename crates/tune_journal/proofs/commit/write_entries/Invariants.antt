use Rattle.std.proofs.Common.{◌≡◌, ◌+◌, ◌*◌, ◌<◌, drop}
use Rattle.tune_disk.specs.Inside.Spares.{SparesOffsets}
use Rattle.tune_journal.specs.Inside.Phases.{HoldsLogEntries}
use Rattle.tune_journal.specs.Inside.ShortImages.{IsBlankFrom}
use Rattle.tune_journal.specs.FileOffsets.{log_entry_bytes}
use Rattle.tune_journal.proofs.commit.write_entries.Given as goal

abbrev pub invariant-loop-place : goal.invariant-loop-place
invariant-loop-place g l = record {
  at : l.at ≡ l.base + log_entry_bytes * l.place;
  used : IsBlankFrom l.used (drop 4 l.entry);
  honest : g.D.Disk.honest l.disk → g.D.Disk.honest l.initial.disk;
  spares : g.D.Disk.honest l.disk → SparesOffsets (λ i. i < l.base) (g.D.Disk.state l.initial.disk) (g.D.Disk.state l.disk);
  entries : g.D.Disk.honest l.disk → HoldsLogEntries l.base l.changes l.place (g.D.Disk.state l.disk).seen;
  failures : g.D.Disk.failures l.disk ≡ g.D.Disk.failures l.initial.disk;
}
