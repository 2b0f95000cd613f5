use Rattle.std.proofs.Common.{◌≡◌, ◌≤◌, true, length}
use Rattle.tune_pages.specs.Stand.{AllFree, marked}
use Rattle.index_keys.specs.Entries.{IsRising}
use Rattle.tune_index.proofs.Loading.{LoadedSoFar}
use Rattle.tune_index.proofs.index.Index.load.Given as goal

abbrev pub invariant-loop-place : goal.invariant-loop-place
invariant-loop-place g l = record {
  honest : g.D.Disk.honest l.opening.disk → g.D.Disk.honest l.initial.opening.disk;
  same : g.D.Disk.honest l.opening.disk → g.D.Disk.state l.opening.disk ≡ g.D.Disk.state l.initial.opening.disk;
  pages : g.D.Disk.honest l.opening.disk → l.opening.pages ≡ l.initial.opening.pages;
  count : length l.opening.pages ≡ length l.initial.opening.pages;
  failures : g.D.Disk.failures l.opening.disk ≡ g.D.Disk.failures l.initial.opening.disk;
  rising : IsRising (g.L.EntryList.entries l.entries);
  few : length (g.L.EntryList.entries l.entries) ≤ l.most;
  so_far : g.D.Disk.honest l.opening.disk → LoadedSoFar g.row.W l.initial.opening.pages l.bytes.items l.first l.place l.index (g.L.EntryList.entries l.entries);
  after : g.D.Disk.honest l.opening.disk → l.opening.claimed ≡ marked true l.index.pages l.initial.opening.claimed;
  free : g.D.Disk.honest l.opening.disk → AllFree l.index.pages l.initial.opening.claimed;
}
