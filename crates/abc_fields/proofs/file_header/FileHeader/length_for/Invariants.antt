use Rattle.std.proofs.Common.{◌≡◌, ◌+◌, drop}
use Rattle.abc_fields.specs.Inside.HeaderRows.{in_table, sum_carried}
use Rattle.abc_fields.proofs.file_header.FileHeader.length_for.Given as goal

abbrev pub invariant-loop-sum : goal.invariant-loop-sum
invariant-loop-sum l = l.length + sum_carried (in_table l.letters.table) (drop l.sum-index l.sum-items) ≡ sum_carried (in_table l.letters.table) l.sum-items
