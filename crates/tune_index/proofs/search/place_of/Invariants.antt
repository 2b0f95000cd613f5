use Rattle.std.proofs.Common.{ℕ, ◌-◌, ◌<◌, ◌≤◌, length, get_or}
use Rattle.index_keys.specs.Entries.{Entry, rank, IsRising}
use Rattle.tune_index.proofs.search.place_of.Given as goal

abbrev pub invariant-loop-low : goal.invariant-loop-low
invariant-loop-low g l = record {
  ordered : l.low ≤ l.high;
  within : l.high ≤ length l.entries;
  before : IsRising l.entries → (k : ℕ) (d : Entry) → k < l.low → rank (get_or l.entries k d) < rank (l.key, l.value);
  after : IsRising l.entries → (k : ℕ) (d : Entry) → l.high ≤ k → k < length l.entries → rank (l.key, l.value) ≤ rank (get_or l.entries k d);
}

abbrev pub decreases-loop-low : goal.decreases-loop-low
decreases-loop-low g l = l.high - l.low
