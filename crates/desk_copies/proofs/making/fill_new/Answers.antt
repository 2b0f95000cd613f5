use Rattle.std.proofs.Common.{sym, subst}
use Rattle.tune_disk.specs.Stops.{LeavesOnly}
use Rattle.tune_pages.specs.Kept.{HonestAt}
use Rattle.tune_store.specs.State.{State}
use Rattle.tune_desk.specs.ArchiveFiles.{KeepsNone}
use Rattle.tune_format.specs.States.{Holds}
use Rattle.desk_copies.proofs.making.fill_new.Goals as goal

pub returns-in-Ok-put_archive : goal.returns-in-Ok-put_archive
returns-in-Ok-put_archive g c = λ file was begun over.
    let honest = g.D.Disk.honest in
    let state = g.D.Disk.state in
    let disk = c.into_disk.result in
    let held = c.into_disk.ensures.disk in
    let met : honest disk → HonestAt honest c.in-Ok.archive.pages.disk = λ h. subst (HonestAt honest) (sym held) h in
    let put = c.in-Ok-put_archive.ensures KeepsNone file was begun over in
    record {
      makes = put.0;
      disk = disk;
      puts = put.1.0;
      empty = λ h.
          subst (λ (s : State). LeavesOnly (state disk).now (λ left. Holds left s)) (c.in-Ok.ensures.state (met h))
          (c.into_disk.ensures.rest (met h) c.in-Ok.ensures.is_open);
    }

pub returns-in-Err-put_archive : goal.returns-in-Err-put_archive
returns-in-Err-put_archive g c = λ file was begun over. c.in-Err-put_archive.ensures KeepsNone file was begun over

pub returns-in-Err : goal.returns-in-Err
returns-in-Err g c = λ file was begun over. c.leave_archive.ensures KeepsNone file was begun
