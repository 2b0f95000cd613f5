-- Disks that fail some calls of the disk within them.
use Rattle.std.specs.Prelude.{◌≡◌, ℕ, zero, suc, ◌+◌, ◌-◌, ◌<◌, Option, Some, None, Result, IsErr}
use Rattle.tune_disk.specs.Disk.{DiskState, CountsFailure}

-- a disk behind a fuse: how many calls pass yet, and how often the fuse itself has failed
pub record Fused (D : Type 0) : Type 0 where
  pub disk : D
  pub calls_left : ℕ
  pub failed : ℕ

-- It shows the state of the disk within, is honest as that is, and counts its own faults besides.
abbrev pub fused_state : {D : Type 0} → (D → DiskState) → Fused D → DiskState
fused_state state fuse = state fuse.disk

abbrev pub fused_honest : {D : Type 0} → (D → Type 0) → Fused D → Type 0
fused_honest honest fuse = honest fuse.disk

abbrev pub fused_failures : {D : Type 0} → (D → ℕ) → Fused D → ℕ
fused_failures failures fuse = failures fuse.disk + fuse.failed

-- One call of a fuse: where it is blown, the call fails and the disk within is not touched; else
-- that disk has the call, and its failures alone are counted.
pub record Burns {D T E : Type 0} (failures : D → ℕ) (result : Result T E)
    (old new : Fused D) : Type 0 where
  pub blown : old.calls_left ≡ 0 → IsErr result × (new.disk ≡ old.disk)
  pub passed : 0 < old.calls_left → CountsFailure result (failures old.disk) (failures new.disk)
  pub left : new.calls_left ≡ old.calls_left - 1

-- a disk of which one call fails: how many calls pass before it, or none where it is past
pub record Faulted (D : Type 0) : Type 0 where
  pub disk : D
  pub calls_before : Option ℕ

-- how many calls pass before the fault after one more call
abbrev pub one_call_on : Option ℕ → Option ℕ
one_call_on None = None
one_call_on (Some zero) = None
one_call_on (Some (suc n)) = Some n

-- how many faults there were
abbrev pub faults_past : Option ℕ → ℕ
faults_past None = 1
faults_past (Some n) = 0

-- It shows the state of the disk within, is honest as that is, and counts its own fault besides.
abbrev pub faulted_state : {D : Type 0} → (D → DiskState) → Faulted D → DiskState
faulted_state state fault = state fault.disk

abbrev pub faulted_honest : {D : Type 0} → (D → Type 0) → Faulted D → Type 0
faulted_honest honest fault = honest fault.disk

abbrev pub faulted_failures : {D : Type 0} → (D → ℕ) → Faulted D → ℕ
faulted_failures failures fault = failures fault.disk + faults_past fault.calls_before

-- One call: the one whose turn to fail has come fails, and the disk within is not touched; else
-- that disk has the call, and its failures alone are counted.
pub record FailsOnce {D T E : Type 0} (failures : D → ℕ) (result : Result T E)
    (old new : Faulted D) : Type 0 where
  pub due : old.calls_before ≡ Some 0 → IsErr result × (new.disk ≡ old.disk)
  pub passed : (old.calls_before ≡ Some 0 → ⊥)
      → CountsFailure result (failures old.disk) (failures new.disk)
  pub before : new.calls_before ≡ one_call_on old.calls_before
