use Rattle.std.proofs.Common.{◌≡◌, ◌+◌, ◌≤◌, drop}
use Rattle.abc_fields.specs.Inside.Shares.{run_count, run_length}
use Rattle.abc_fields.proofs.shares.run_before.Given as goal

abbrev pub invariant-loop-mark : goal.invariant-loop-mark
invariant-loop-mark l = record {
  count : l.count + run_count l.place (drop l.mark-index l.marks) ≡ run_count l.place l.marks;
  length : l.length + run_length l.place (drop l.mark-index l.marks) ≡ run_length l.place l.marks;
  within : l.count ≤ l.mark-index;
}
