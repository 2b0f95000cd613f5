-- An archive in a file as a store of tunes.
use Rattle.tune_disk.specs.declared.disk.Disk as disk
use Rattle.tune_pages.specs.Kept.{HonestAt, state_at, failures_at}
use Rattle.tune_store.specs.declared.tune_store.TuneStore as store
use Rattle.tune_format.specs.States.{Holds}
use Rattle.tune_archive.specs.Media.{moment_of, LeftAt, LeftFrom}
use Rattle.tune_archive.specs.Shelf.{Shelf, state_of, IsSound}

-- What is told of an archive on such a disk, as of any store: these are the members by which
-- `Archive` is a `TuneStore`.
abbrev pub store_on : {D : Type 0} → disk.Ghosts D → store.Ghosts (Shelf D)
store_on disks = record {
  state = state_of disks.state;
  closed = λ archive. archive.closed;
  honest = λ archive. HonestAt disks.honest archive.pages.disk;
  sound = IsSound disks.honest disks.state;
  failures = λ archive. failures_at disks.failures archive.pages.disk;
  moment = λ archive. moment_of (state_at disks.state archive.pages.disk);
  left_at = λ archive. LeftAt (state_at disks.state archive.pages.disk);
  left_since = λ archive. LeftFrom (state_at disks.state archive.pages.disk);
  stands_for = Holds;
}
