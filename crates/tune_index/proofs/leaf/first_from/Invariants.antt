use Rattle.std.proofs.Common.{ℕ, ◌-◌, ◌<◌, ◌≤◌, length, get_or}
use Rattle.index_keys.specs.Entries.{Entry, rank, IsRising}
use Rattle.tune_index.specs.Leaves.{entries_in}
use Rattle.tune_index.proofs.leaf.first_from.Given as goal

abbrev pub invariant-loop-first : goal.invariant-loop-first
invariant-loop-first g l =
    let es = entries_in g.row.W l.fn.count l.fn.bytes in
    record {
      ordered : l.first ≤ l.last;
      within : l.last ≤ l.fn.count;
      before : IsRising es → (k : ℕ) (d : Entry) → k < l.first → rank (get_or es k d) < rank (l.key, l.value);
      after : IsRising es → (k : ℕ) (d : Entry) → l.last ≤ k → k < length es → rank (l.key, l.value) ≤ rank (get_or es k d);
    }

abbrev pub decreases-loop-first : goal.decreases-loop-first
decreases-loop-first g l = l.last - l.first
