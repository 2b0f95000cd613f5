use Rattle.desk_backups.proofs.ThinLemmas.{asked_thins}
use Rattle.desk_backups.proofs.old_copies.thin_out.Goals as goal

pub returns-in-Ok : goal.returns-in-Ok
returns-in-Ok g c = c.thin_each.ensures _ (asked_thins _ _ _ c.numbers_there.ensures.quiet)

pub returns-in-Err : goal.returns-in-Err
returns-in-Err g c = asked_thins _ _ _ c.numbers_there.ensures.quiet
