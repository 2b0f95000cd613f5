use Rattle.std.proofs.Common.{◌≡◌, ◌+◌, ◌++◌, length}
use Rattle.std.specs.Vec.Iter.{into_iter_items}
use Rattle.tune_store.specs.TuneSteps.{numbered}
use Rattle.tune_store.proofs.list_archive.boxed_tunes.Given as goal

abbrev pub invariant-loop-text : goal.invariant-loop-text
invariant-loop-text l = record {
  items : l.tunes.items ≡ numbered l.first l.yielded;
  number : l.number ≡ l.first + length l.yielded;
  left : l.yielded ++ into_iter_items l.text-iterator ≡ l.fn.texts.items;
}
