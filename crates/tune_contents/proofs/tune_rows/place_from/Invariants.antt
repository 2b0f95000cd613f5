use Rattle.std.proofs.Common.{ℕ, ◌-◌, ◌<◌, ◌≤◌, length, get_or}
use Rattle.tune_format.specs.declared.rows.Row.{Row}
use Rattle.tune_contents.specs.Claimed.{RowsRise}
use Rattle.tune_contents.proofs.tune_rows.place_from.Given as goal

abbrev pub invariant-loop-first : goal.invariant-loop-first
invariant-loop-first l = record {
  ordered : l.first ≤ l.last;
  within : l.last ≤ length l.rows.items;
  before : RowsRise 0 l.rows.items → (k : ℕ) (d : Row) → k < l.first → (get_or l.rows.items k d).number < l.number;
  after : RowsRise 0 l.rows.items → (k : ℕ) (d : Row) → l.last ≤ k → k < length l.rows.items → l.number ≤ (get_or l.rows.items k d).number;
}

abbrev pub decreases-loop-first : goal.decreases-loop-first
decreases-loop-first l = l.last - l.first
