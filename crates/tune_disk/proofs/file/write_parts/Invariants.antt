use Rattle.std.proofs.Common.{◌-◌, ◌≤◌, length, take}
use Rattle.tune_disk.specs.Inside.ToldMore.{IsToldTaken}
use Rattle.tune_disk.proofs.file.write_parts.Given as goal

abbrev pub invariant-loop-done : goal.invariant-loop-done
invariant-loop-done l = record {
  within : l.done ≤ length l.bytes;
  told : IsToldTaken (take l.done l.bytes) l.initial.log.items l.log.items;
}

abbrev pub decreases-loop-done : goal.decreases-loop-done
decreases-loop-done l = length l.bytes - l.done
