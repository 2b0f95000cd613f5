use Rattle.tune_disk.specs.Inside.ToldMore.{IsToldRead}
use Rattle.tune_disk.proofs.file.told.tell_read.Given as goal

abbrev pub invariant-loop-i : goal.invariant-loop-i
invariant-loop-i l = IsToldRead l.at l.i l.bytes l.fn.log.items l.log.items
