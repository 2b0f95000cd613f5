use Rattle.std.proofs.Common.{◌≡◌, ◌+◌, ◌*◌, ◌≤◌, length, ◌-◌, ◌++◌}
use Rattle.index_keys.specs.Entries.{AllFit}
use Rattle.tune_index.specs.Leaves.{entries_in}
use Rattle.tune_index.proofs.leaf.read_entries.Given as goal

abbrev pub invariant-loop-done : goal.invariant-loop-done
invariant-loop-done g l = record {
  room : (l.fn.count - l.done) * (g.row.W + 4) ≤ length l.rest;
  fit : AllFit g.row.W l.entries.items;
  so_far : l.entries.items ++ entries_in g.row.W (l.fn.count - l.done) l.rest ≡ entries_in g.row.W l.fn.count l.fn.bytes;
}
