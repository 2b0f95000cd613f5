use Rattle.std.proofs.Common.{◌≡◌, ◌≤◌, ◌++◌}
use Rattle.std.specs.Vec.Iter.{into_iter_items}
use Rattle.tune_store.proofs.list_archive.add_tunes.Given as goal

abbrev pub invariant-loop-tune : goal.invariant-loop-tune
invariant-loop-tune l = record {
  items : l.tunes.items ≡ l.fn.tunes.items ++ l.yielded;
  room : l.fn.tunes.room ≤ l.tunes.room;
  left : l.yielded ++ into_iter_items l.tune-iterator ≡ l.fn.added.items;
}
