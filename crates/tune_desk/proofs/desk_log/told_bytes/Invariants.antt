use Rattle.std.proofs.Common.{◌≡◌, take}
use Rattle.tune_desk.specs.DeskLog.{bytes_of}
use Rattle.tune_desk.proofs.desk_log.told_bytes.Given as goal

abbrev pub invariant-loop-byte : goal.invariant-loop-byte
invariant-loop-byte l = bytes_of l.told ≡ take l.byte-index l.bytes
