use Rattle.std.proofs.Common.{◌≡◌, ◌≤◌, ◌<◌, ℕ, List, [], take, get_or}
use Rattle.tune_disk.specs.Records.{state_of_records}
use Rattle.tune_disk.specs.declared.memory.Record.TheVariants.{Sync}
use Rattle.tune_disk.proofs.memory.up_to_last_sync.Given as goal

abbrev pub invariant-loop-i : goal.invariant-loop-i
invariant-loop-i l = record {
  bound : l.synced ≤ l.i;
  left : (first : List ℕ) → (state_of_records first (take l.synced l.records)).seen ≡ (state_of_records first (take l.i l.records)).now.stable;
  settled : (first : List ℕ) → (state_of_records first (take l.synced l.records)).now.written ≡ [];
  later : (k : ℕ) → l.synced ≤ k → k < l.i → get_or l.records k Sync ≡ Sync → ⊥;
}
