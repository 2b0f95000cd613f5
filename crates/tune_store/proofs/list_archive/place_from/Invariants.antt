use Rattle.std.proofs.Common.{◌-◌, ◌<◌, ◌≤◌, length}
use Rattle.std.specs.List.{AllWithin}
use Rattle.tune_store.proofs.list_archive.place_from.Given as goal

abbrev pub invariant-loop-first : goal.invariant-loop-first
invariant-loop-first l = record {
  ordered : l.first ≤ l.last;
  within : l.last ≤ length l.tunes.items;
  before : AllWithin (λ tune. tune.number < l.number) l.tunes.items 0 l.first;
  behind : AllWithin (λ tune. l.number ≤ tune.number) l.tunes.items l.last (length l.tunes.items);
}

abbrev pub decreases-loop-first : goal.decreases-loop-first
decreases-loop-first l = l.last - l.first
