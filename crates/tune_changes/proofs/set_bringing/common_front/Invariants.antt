use Rattle.std.proofs.Common.{◌≡◌, ◌+◌, drop}
use Rattle.tune_changes.specs.Bringing.{common_front}
use Rattle.tune_changes.proofs.set_bringing.common_front.Given as goal

abbrev pub invariant-loop-place : goal.invariant-loop-place
invariant-loop-place l = common_front l.old l.new ≡ l.place + common_front (drop l.place l.old) (drop l.place l.new)
