use Rattle.std.proofs.Common.{◌<◌, ◌≤◌, ◌^◌, take, All}
use Rattle.std.specs.List.Sorted.{IsNonDecreasingBy}
use Rattle.tune_search.proofs.runs.is_by_number.Given as goal

abbrev pub invariant-loop-place : goal.invariant-loop-place
invariant-loop-place g l = record {
  by_number : IsNonDecreasingBy (λ e. e.1) (take l.place l.run);
  below : All (λ e. e.1 ≤ l.last) (take l.place l.run);
  small : l.last < 2 ^ 32;
}
