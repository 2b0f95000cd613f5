use Rattle.std.proofs.Common.{◌≡◌}
use Rattle.tune_disk.proofs.file.calls.write_part.Given as goal

abbrev pub invariant-loop : goal.invariant-loop
invariant-loop l = l.log.items ≡ l.initial.log.items
