use Rattle.std.proofs.Common.{◌≡◌, ◌+◌, ◌≤◌, ◌++◌, length}
use Rattle.std.specs.Vec.Iter.{into_iter_items}
use Rattle.chosen_books.specs.ChosenTunes.{new_tunes, sums_after}
use Rattle.chosen_books.proofs.choices.new_tunes.Given as goal

abbrev pub invariant-loop-tune : goal.invariant-loop-tune
invariant-loop-tune l = record {
  kept : l.kept.items ++ new_tunes l.known (into_iter_items l.tune-iterator) ≡ new_tunes l.fn.known l.fn.tunes.items;
  sums : sums_after l.known (into_iter_items l.tune-iterator) ≡ sums_after l.fn.known l.fn.tunes.items;
  few : length l.kept.items + length (into_iter_items l.tune-iterator) ≤ length l.fn.tunes.items;
}
