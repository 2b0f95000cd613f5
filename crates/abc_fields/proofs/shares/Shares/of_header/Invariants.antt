use Rattle.std.proofs.Common.{true, take, ◌≤◌}
use Rattle.abc_fields.specs.Inside.HeaderRows.{row_list}
use Rattle.abc_fields.specs.Inside.Shares.{AreShares}
use Rattle.abc_fields.proofs.shares.Shares.of_header.Given as goal

abbrev pub invariant-loop-place : goal.invariant-loop-place
invariant-loop-place l = record { are : AreShares (λ _. true) 0 (row_list (take l.place l.lines)) l.list.items; few : l.changes ≤ l.place }
