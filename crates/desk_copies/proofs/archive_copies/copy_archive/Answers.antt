use Rattle.desk_copies.proofs.CopyChecks.{copies_archive}
use Rattle.desk_copies.proofs.archive_copies.copy_archive.Goals as goal

pub returns-in-Ok-clause-copied : goal.returns-in-Ok-clause-copied
returns-in-Ok-clause-copied g c = copies_archive g.D.Disk.honest g.D.Disk.state c.checked_copy.result.outcome _ _ _ _ c.in-Ok.sum
    c.checked_copy.ensures.checked c.in-Ok.ensures.copied c.checked_copy.ensures.disk
