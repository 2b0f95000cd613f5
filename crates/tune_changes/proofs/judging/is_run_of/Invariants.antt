use Rattle.std.proofs.Common.{◌≡◌, drop}
use Rattle.tune_changes.specs.Judging.{is_run_of}
use Rattle.tune_changes.proofs.judging.is_run_of.Given as goal

abbrev pub invariant-loop-place : goal.invariant-loop-place
invariant-loop-place l = is_run_of l.run l.numbers ≡ is_run_of l.run (drop l.place l.numbers)
