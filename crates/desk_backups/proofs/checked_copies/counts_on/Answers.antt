use Rattle.desk_backups.proofs.CheckLemmas.{counts_held}
use Rattle.desk_backups.proofs.checked_copies.counts_on.Goals as goal

pub returns-in-Ok-counts-clause-told : goal.returns-in-Ok-counts-clause-told
returns-in-Ok-counts-clause-told g c = counts_held g.D.Disk c.args.disk c.into_disk-disk.result c.in-Ok.archive c.in-Ok-counts.counts
    c.into_disk-disk.ensures.disk c.in-Ok.ensures.state c.in-Ok-counts.ensures.counts
