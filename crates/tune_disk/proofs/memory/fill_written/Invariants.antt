use Rattle.std.proofs.Common.{◌≤◌, ℕ, List, take}
use Rattle.tune_disk.specs.Inside.Fills.{Fills}
use Rattle.tune_disk.specs.Records.{state_of_records}
use Rattle.tune_disk.proofs.memory.fill_written.Given as goal

abbrev pub invariant-loop-i : goal.invariant-loop-i
invariant-loop-i l = record {
  from : l.synced ≤ l.i;
  fills : (first : List ℕ) → Fills l.byte (state_of_records first (take l.i l.records)).now.written l.initial.file l.file;
}
