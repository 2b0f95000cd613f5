use Rattle.std.proofs.Common.{◌≡◌, ◌+◌, ◌≤◌, drop}
use Rattle.std.specs.Prelude.{count_by, max}
use Rattle.chosen_books.specs.ChosenTunes.{carries_some, most_carried}
use Rattle.chosen_books.proofs.choices.carried_of.Given as goal

abbrev pub invariant-loop-tune : goal.invariant-loop-tune
invariant-loop-tune l = record {
  lines : max l.carried.lines (most_carried (drop l.tune-index l.tunes)) ≡ most_carried l.tunes;
  tunes : l.carried.tunes + count_by carries_some (drop l.tune-index l.tunes) ≡ count_by carries_some l.tunes;
  few : l.carried.tunes ≤ l.tune-index;
}
