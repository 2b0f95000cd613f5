use Rattle.std.proofs.Common.{ℕ, ◌-◌, ◌<◌, ◌≤◌, length, get_or}
use Rattle.index_keys.specs.KeyLists.{KeysRise}
use Rattle.index_keys.proofs.rising.place_of.Given as goal

abbrev pub invariant-loop-low : goal.invariant-loop-low
invariant-loop-low g l = record {
  ordered : l.low ≤ l.high;
  within : l.high ≤ length l.keys;
  before : KeysRise 0 l.keys → (k : ℕ) (d : ℕ) → k < l.low → get_or l.keys k d < l.key;
  after : KeysRise 0 l.keys → (k : ℕ) (d : ℕ) → l.high ≤ k → k < length l.keys → l.key ≤ get_or l.keys k d;
}

abbrev pub decreases-loop-low : goal.decreases-loop-low
decreases-loop-low g l = l.high - l.low
