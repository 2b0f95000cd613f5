use Rattle.std.proofs.Common.{◌≡◌, length, take}
use Rattle.tune_index.specs.Leaves.{entries_in}
use Rattle.tune_index.proofs.leaf_edits.write_entries.Given as goal

abbrev pub invariant-loop-place : goal.invariant-loop-place
invariant-loop-place g l = record {
  length : length l.bytes ≡ length l.fn.bytes;
  so_far : entries_in g.row.W l.place l.bytes ≡ take l.place l.entries;
}
