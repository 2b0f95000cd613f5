-- A change in progress: pages, and a work on them.
use Rattle.std.specs.Prelude.{◌≡◌, Result, OnOk, false}
use Rattle.tune_disk.specs.declared.disk.Disk as disk
use Rattle.tune_pages.specs.Faults.{AnswersRead}
use Rattle.tune_pages.specs.Kept.{Kept, HonestAt}
use Rattle.tune_pages.specs.PageLooks.{LooksAt, SameStand}
use Rattle.tune_pages.specs.Work.{stand, Fits}
use Rattle.tune_pages.specs.declared.fault.Fault.{Fault}
use Rattle.tune_pages.specs.declared.work.Work.{Work}

-- It goes on: the pages are open, and the work fits them.
pub record IsInProgress {D : Type 0} (kept : Kept D) (work : Work) : Type 0 where
  pub is_open : kept.closed ≡ false
  pub fits : Fits kept work

-- A call that only looks at it: the work stands for the same as before.
pub record Reads {D T : Type 0} (disks : disk.Ghosts D) (result : Result T Fault) (work : Work)
    (old new : Kept D) : Type 0 where
  pub looks : LooksAt disks.honest disks.failures disks.state result old new
  pub answer : AnswersRead result old.closed new.closed
  pub fits : OnOk result (Fits new work)
  pub stand : OnOk result (SameStand (HonestAt disks.honest new.disk) (stand old work)
      (stand new work))
