use Rattle.std.proofs.Common.{take}
use Rattle.tune_disk.specs.Inside.ToldMore.{IsToldTaken}
use Rattle.tune_disk.proofs.file.told.tell_taken.Given as goal

abbrev pub invariant-loop-i : goal.invariant-loop-i
invariant-loop-i l = IsToldTaken (take l.i l.bytes) l.fn.log.items l.log.items
