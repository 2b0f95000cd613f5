use Rattle.std.proofs.Common.{◌-◌, ◌≤◌, length}
use Rattle.tune_contents.proofs.claiming.blank_chains.Given as goal

abbrev pub invariant-loop-alloc : goal.invariant-loop-alloc
invariant-loop-alloc l = length l.chains.items ≤ 32

abbrev pub decreases-loop-alloc : goal.decreases-loop-alloc
decreases-loop-alloc l = 32 - length l.chains.items
