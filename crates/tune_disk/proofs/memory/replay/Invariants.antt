use Rattle.std.proofs.Common.{◌≡◌, take}
use Rattle.tune_disk.specs.Records.{state_of_records}
use Rattle.tune_disk.proofs.memory.replay.Given as goal

abbrev pub invariant-loop-one : goal.invariant-loop-one
invariant-loop-one l = l.content.items ≡ (state_of_records l.first (take l.one-index l.records)).seen
