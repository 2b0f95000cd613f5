use Rattle.std.proofs.Common.{◌-◌, ◌*◌, ◌+◌, ◌≤◌, length}
use Rattle.index_keys.specs.Entries.{IsRising}
use Rattle.tune_index.specs.Leaves.{leaf_in}
use Rattle.tune_index.proofs.Joining.{JoinedSoFar}
use Rattle.tune_index.proofs.load.join_leaf.Given as goal

abbrev pub invariant-loop-done : goal.invariant-loop-done
invariant-loop-done g l = record {
  room : (l.count - l.done) * (g.row.W + 4) ≤ length l.rest;
  rising : IsRising (g.L.EntryList.entries l.entries);
  few : length (g.L.EntryList.entries l.entries) + (l.count - l.done)
      ≤ length (g.L.EntryList.entries l.fn.entries) + length (leaf_in g.row.W l.fn.image.bytes);
  joined : JoinedSoFar g.row.W (g.L.EntryList.entries l.fn.entries) (g.L.EntryList.entries l.entries) (l.count - l.done) l.rest
      (leaf_in g.row.W l.fn.image.bytes);
}
