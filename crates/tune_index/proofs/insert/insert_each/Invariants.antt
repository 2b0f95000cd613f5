use Rattle.std.proofs.Common.{◌≡◌, ◌+◌, ◌≤◌, ◌⊎◌, take, length}
use Rattle.index_keys.specs.Entries.{IsRising, AllFit, inserted_all}
use Rattle.tune_index.proofs.insert.insert_each.Given as goal

abbrev pub invariant-loop-entry : goal.invariant-loop-entry
invariant-loop-entry g l = record {
  so_far : IsRising l.fn.leaf.items → l.leaf.items ≡ inserted_all (take l.entry-index l.part) l.fn.leaf.items;
  some : (l.entry-index ≡ 0) ⊎ (1 ≤ length l.leaf.items);
  within : length l.leaf.items ≤ length l.fn.leaf.items + l.entry-index;
  fit : AllFit g.row.W (take l.entry-index l.part);
}
