-- What the calls of a change in progress leave.
use Rattle.std.specs.Prelude.{◌≡◌, Bool, true, false, Result, MatchResult, OnOk}
use Rattle.tune_disk.specs.declared.disk.Disk as disk
use Rattle.tune_pages.specs.Edited.{Edited}
use Rattle.tune_pages.specs.Kept.{HonestAt}
use Rattle.tune_pages.specs.PageLooks.{LooksAt, SameStand}
use Rattle.tune_pages.specs.declared.fault.Fault.{Fault}
use Rattle.tune_pages.specs.declared.fault.Fault.TheVariants.{FileFull, OutOfMemory, Device}
use Rattle.tune_pages.specs.declared.fault.Fault.TheVariants.{Closed}

-- Each fault ends the change; `Closed` comes exactly where it had ended.
abbrev pub IsEditFault : Fault → Type 0 → Type 0 → Bool → Bool → Type 0
IsEditFault FileFull Full Failed old new = Full × (old ≡ true) × (new ≡ false)
IsEditFault OutOfMemory Full Failed old new = (old ≡ true) × (new ≡ false)
IsEditFault Device Full Failed old new = Failed × (old ≡ true) × (new ≡ false)
IsEditFault Closed Full Failed old new = (old ≡ false) × (new ≡ false)

-- The answer of a call, by whether the change goes on before it and behind it: `FileFull` where the
-- file is full for it, and `Device` where the disk failed.
abbrev pub AnswersEdit : {T : Type 0} → Result T Fault → Type 0 → Type 0 → Bool → Bool → Type 0
AnswersEdit result Full Failed old new =
    MatchResult result (λ _. (old ≡ true) × (new ≡ true))
    (λ fault. IsEditFault fault Full Failed old new)

-- A call that asks nothing of the disk.
pub record AltersEdit {D T : Type 0} (result : Result T Fault) (Full : Type 0) (old new : Edited D)
    : Type 0 where
  pub base : new.base ≡ old.base
  pub answer : AnswersEdit result Full ⊥ old.live new.live

-- A call that only looks: it leaves the pages as they are, and what the change makes of them, but
-- for the images that a disk shows that is not honest. `Device` closes the pages.
pub record Consults {D T : Type 0} (disks : disk.Ghosts D) (result : Result T Fault)
    (old new : Edited D) : Type 0 where
  pub looks : LooksAt disks.honest disks.failures disks.state result old.base new.base
  pub stand : OnOk result (SameStand (HonestAt disks.honest new.base.disk) old.next new.next)
  pub answer : AnswersEdit result ⊥ (new.base.closed ≡ true) old.live new.live

-- A call that looks, and alters what the change makes of the pages.
pub record Edits {D T : Type 0} (disks : disk.Ghosts D) (result : Result T Fault) (Full : Type 0)
    (old new : Edited D) : Type 0 where
  pub looks : LooksAt disks.honest disks.failures disks.state result old.base new.base
  pub answer : AnswersEdit result Full (new.base.closed ≡ true) old.live new.live
